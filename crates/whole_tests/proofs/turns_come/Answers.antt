-- turns_come meets its contract: the places of numbered points say which place comes next.
use mathlib.Core.Path.{sym, ◌∙◌}
use Prim.Native.Nat.{ℕ, ◌-◌}
use native.Mathlib.Omega.{arith}
use lib.ListN.{length, get_or, take, length-replicate}
use lib.Seq.{length-take-le, get_or-take}
use Rattle.whole_tests.proofs.Laws.{turn-room, turns-are}
use Rattle.whole_tests.proofs.turns_come.Goals as goal

-- src/lib.rt:149:19
pub slice_bounds-spread-end : goal.slice_bounds-spread-end
slice_bounds-spread-end c =
    sym (length-take-le (length c.args.listed.now) c.number_places.new.numbers
    (omega (arith, c.number_places.auto.numbers, length-replicate {A = ℕ} 16384 0, c.requires.whole_room.few)))

-- src/lib.rt:149:5
pub spread-requires : goal.spread-requires
spread-requires c =
    record {
      sides_len_bound = c.requires.whole_room.few-faces;
      sides_value = c.requires.whole_room.all_listed
          ∙ sym (length-take-le (length c.args.listed.now) c.number_places.new.numbers
          (omega (arith, c.number_places.auto.numbers, length-replicate {A = ℕ} 16384 0, c.requires.whole_room.few)));
      listed_in_bounds = omega (
        arith,
        (length-take-le (length c.args.listed.now) c.number_places.new.numbers
            (omega (arith, c.number_places.auto.numbers, length-replicate {A = ℕ} 16384 0, c.requires.whole_room.few))),
        c.requires.whole_room.few,
        length-replicate {A = ℕ} 16384 0,
      );
      listed_in_bounds_2 = omega (
        arith,
        (length-take-le (length c.args.listed.now) c.number_places.new.numbers
            (omega (arith, c.number_places.auto.numbers, length-replicate {A = ℕ} 16384 0, c.requires.whole_room.few))),
        c.requires.whole_room.few,
        length-replicate {A = ℕ} 16384 0,
      );
      listed_len_bound = omega (
        arith,
        (length-take-le (length c.args.listed.now) c.number_places.new.numbers
            (omega (arith, c.number_places.auto.numbers, length-replicate {A = ℕ} 16384 0, c.requires.whole_room.few))),
        c.requires.whole_room.few,
      );
    }

-- src/lib.rt:150:5
pub all_come-requires : goal.all_come-requires
all_come-requires c =
    record {
      turn_room = turn-room c.args.sides.now c.args.listed.now c.args.mates.now c.args.seconds.now
          (length c.args.starts.now) c.requires.whole_room (take (length c.args.listed.now) c.number_places.new.numbers)
          c.spread.new.tos c.spread.new.faces
          (length-take-le (length c.args.listed.now) c.number_places.new.numbers
          (omega (arith, c.number_places.auto.numbers, length-replicate {A = ℕ} 16384 0, c.requires.whole_room.few)))
          (λ k b. get_or-take (length c.args.listed.now) c.number_places.new.numbers k 0 b ∙ c.number_places.ensures k b)
          c.spread.ensures (omega (arith, c.spread.auto.tos, length-replicate {A = ℕ} 16384 0, c.requires.whole_room.few));
      n_in_bounds = omega arith;
      by_index = c.requires.whole_room.are-points;
      starts_len_bound = c.requires.starts_len_bound;
    }

-- src/lib.rt:137:1
pub returns : goal.returns
returns c =
    c.all_come.ensures
    ∙ turns-are c.args.sides.now c.args.listed.now c.args.mates.now c.args.seconds.now
    (length c.args.starts.now) c.requires.whole_room (take (length c.args.listed.now) c.number_places.new.numbers)
    c.spread.new.tos c.spread.new.faces
    (length-take-le (length c.args.listed.now) c.number_places.new.numbers
    (omega (arith, c.number_places.auto.numbers, length-replicate {A = ℕ} 16384 0, c.requires.whole_room.few)))
    (λ k b. get_or-take (length c.args.listed.now) c.number_places.new.numbers k 0 b ∙ c.number_places.ensures k b)
    c.spread.ensures (λ k. get_or c.args.starts.now (get_or c.args.listed.now k 0) 0 - 1)
