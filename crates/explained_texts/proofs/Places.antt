-- The claim of the place of a text. Assumes nothing.
use mathlib.Core.Path.{◌≡◌, refl, sym, ◌∙◌, ap}
use mathlib.Core.List.{List}
use Prim.Native.Nat.{ℕ, ◌≤◌}
use native.Mathlib.Omega.{arith}
use lib.ListN.{length}
use Rattle.tables.specs.declared.Counts.{Counts}
use Rattle.std.specs.Prelude.{Result, Ok, Err}
use Rattle.tables.specs.Mesh.{Mesh, none}
use Rattle.mesh_text.specs.Text.{TextMesh}
use Rattle.built_meshes.specs.Building.{build}
use Rattle.built_meshes.specs.declared.Ground.{Ground}
use Rattle.building_tests.specs.Lent.{limits_of}
use Rattle.building_tests.specs.declared.Bounds.{Bounds}
use Rattle.building_tests.specs.declared.Bounds.TheVariants.{General, Refine}
use Rattle.text_meshes.specs.TextBuilding.{lists_of, told, TextOutcome, build_text}
use Rattle.text_meshes.specs.Claims.{StandsFor}
use Rattle.text_meshes.specs.declared.TextRefusal.TheVariants.{Refused}
use Rattle.text_meshes.proofs.Theorem.{of-lists}
use Rattle.refusal_places.specs.Spots.{spotted, where_of}
use Rattle.refusal_places.proofs.Theorem.{spot-is-first}
use Rattle.text_places.specs.TextPlaces.{place_at_check, form_place, text_place_if, text_place}
use Rattle.explained_texts.specs.Places.{PlaceIsFirst}

few : (b : Bounds) → (limits_of b).faces ≤ none
few General = omega arith
few Refine = omega arith

told-refused : (x : Result Counts Ground) (g : Ground) → told x ≡ Err (Refused g) → x ≡ Err g
told-refused (Ok k) g h = absurd (let z : ◌≡◌ {A = ℕ} 0 1 = cc in omega arith)
told-refused (Err g') g h = let y : g' ≡ g = cc in ap Err y

pub place-is-first : PlaceIsFirst
unfolding text_place text_place_if form_place
place-is-first b s m t h g n answer = (
  where_of (spotted (limits_of b) (lists_of t)),
  spot-is-first (limits_of b) (lists_of t) m (few b) g n
      (told-refused (build (limits_of b) (lists_of t) m).answer g (sym (ap (λ (o : TextOutcome). o.answer) (of-lists b s m h)) ∙ answer)),
  rw (h.short, h.form),
)
