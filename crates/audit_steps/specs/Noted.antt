-- Points that a walk has passed, noted by stamps.
--     new_among ps n q            q stands at none of the first n places of ps, which `audit_tests` has
--     stamp_places                how many places there are for stamps
--     stamp_place q               the place of the point q
--     Stamped stamps s ps n      the stamp s stands at the place of each of the first n points of ps
use Rattle.std.specs.Prelude.{◌≡◌, List, ℕ, ◌%◌, ◌<◌, get_or}
pub use Rattle.audit_tests.specs.Parts.{new_among}

abbrev pub stamp_places : ℕ
stamp_places = 512

abbrev pub stamp_place : ℕ → ℕ
stamp_place q = q % stamp_places

abbrev pub Stamped : List ℕ → ℕ → List ℕ → ℕ → Type 0
Stamped stamps s ps n = (a : ℕ) → a < n → get_or stamps (stamp_place (get_or ps a 0)) 0 ≡ s
