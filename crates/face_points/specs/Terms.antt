-- The terms of an edge about one of its points, as the code keeps them from one window to the next. Here es and is are the
-- tables of edges and intervals.
--     terms_about es is p e the interval of the edge e, A2 and C2 of it about p
--     six s t              the terms s summed from left to right, then the terms t added to them one by one
--     FourAgain pts n      behind n points of a border the first four stand again
use Rattle.std.specs.Prelude.{◌≡◌, List, ℕ, ◌+◌, ◌<◌, get_or, Float}
use Rattle.std.specs.Float.{nan, binary64}
use Rattle.std.specs.Float.Ieee.{add}
use Rattle.position_rules.specs.Intervals.{A2, C2}
use Rattle.face_points.specs.declared.Terms.{Terms}

abbrev pub terms_about : List ℕ → List Float → ℕ → ℕ → Terms
terms_about es is p e = record { d = get_or is e nan; a2 = A2 es is p e; c2 = C2 es is p e }

abbrev pub six : Terms → Terms → Float
six s t =
    add binary64
    (add binary64 (add binary64 (add binary64 (add binary64 s.d s.a2) s.c2) t.d) t.a2)
    t.c2

pub record FourAgain (pts : List ℕ) (n : ℕ) : Type 0 where
  pub again : (j : ℕ) → j < 4 → get_or pts (n + j) 0 ≡ get_or pts j 0
