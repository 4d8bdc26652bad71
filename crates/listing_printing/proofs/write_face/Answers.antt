-- `write_face` meets its contract: one run of bytes after another.
use native.Mathlib.Omega.{arith}
use Rattle.listing_printing.proofs.Laws.{short-line-of, face-words, face-room}
use Rattle.listing_printing.proofs.write_face.Goals as goal

-- src/lib.rt:100:9
pub write_words-j-requires : goal.write_words-j-requires
write_words-j-requires c =
    record {
      k_in_bounds = c.requires.face_width_in_bounds;
      k_in_bounds_2 = let r = face-room c.args.faces.now c.args.f c.requires.face_width_in_bounds in
          omega arith;
    }

-- src/lib.rt:101:5
pub write-requires : goal.write-requires
write-requires c =
    let r = face-room c.args.faces.now c.args.f c.requires.face_width_in_bounds in
    omega arith

-- src/lib.rt:93:1
pub returns : goal.returns
returns c =
    short-line-of c.write-i.ensures c.write_words-j.ensures
    c.write.ensures (face-words c.args.faces.now c.args.f c.requires.face_width_in_bounds)
