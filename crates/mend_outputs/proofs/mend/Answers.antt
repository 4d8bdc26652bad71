-- mend meets its contract: by whether the text is too long, and then by the mender's answer.
use native.Mathlib.Omega.{arith}
use mathlib.Core.Path.{sym, ◌∙◌}
use mathlib.Core.List.{◌++◌}
use Prim.Native.Nat.{◌+◌, ◌≤◌}
use lib.ListN.{length, drop}
use lib.Seq.{length-take-le, length_front}
use Rattle.mesh_answers.specs.Lines.{refused_line}
use Rattle.mesh_answers.proofs.Laws.{length-refused}
use Rattle.mend_outputs.proofs.Laws.{line-fits, line-front, long-output, mended-output, refused-output}
use Rattle.mend_outputs.proofs.mend.Goals as goal

pub returns-then-n-gt-MEND_BYTES : goal.returns-then-n-gt-MEND_BYTES
returns-then-n-gt-MEND_BYTES c =
    let room : length (refused_line 2) ≤ length c.args.buffer.now = let l = length-refused 2 in omega
    arith in record {
      upper_bound = line-fits _ _ c.write_refused.ensures room c.write_refused.auto.out;
      buffer_after = line-front _ _ c.write_refused.ensures room
          ∙ sym (long-output c.args.buffer.now c.args.n c.requires.n_in_bounds c.if-n-gt-MEND_BYTES.true);
    }

pub slice_bounds-mend_text_told-end-2 : goal.slice_bounds-mend_text_told-end-2
slice_bounds-mend_text_told-end-2 c =
    sym (length-take-le c.args.n c.args.buffer.now
    c.requires.n_in_bounds)

pub returns-then-answer-eq0 : goal.returns-then-answer-eq0
returns-then-answer-eq0 c =
    record {
      upper_bound = let l = length_front c.args.buffer.now c.mend_text_told-answer.new.text c.args.n c.mend_text_told-answer.auto.text in
          omega arith;
      buffer_after = mended-output c.args.buffer.now c.args.n c.requires.n_in_bounds c.if-n-gt-MEND_BYTES.false
          c.mend_text_told-answer.ensures c.if-answer-eq0.true
          (c.mend_text_told-answer.auto.text ∙ length-take-le c.args.n c.args.buffer.now c.requires.n_in_bounds);
    }

pub returns : goal.returns
returns c =
    let b = c.mend_text_told-answer.new.text ++ drop c.args.n c.args.buffer.now in
    let room : length (refused_line c.mend_text_told-answer.result) ≤ length b = let l = length_front c.args.buffer.now
    c.mend_text_told-answer.new.text c.args.n c.mend_text_told-answer.auto.text in let r = length-refused
    c.mend_text_told-answer.result in omega arith in
    record {
      upper_bound = line-fits _ _ c.write_refused-2.ensures room c.write_refused-2.auto.out;
      buffer_after = line-front _ _ c.write_refused-2.ensures room
          ∙ sym (refused-output c.args.buffer.now c.args.n c.requires.n_in_bounds c.if-n-gt-MEND_BYTES.false
          c.mend_text_told-answer.ensures c.if-answer-eq0.false);
    }
