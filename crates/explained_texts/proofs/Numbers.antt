-- The claim of the number that is told. Assumes nothing.
use mathlib.Core.Path.{◌≡◌, refl, sym, ◌∙◌, ap}
use mathlib.Core.List.{List}
use Prim.Native.Nat.{ℕ, ◌≤◌}
use native.Mathlib.Omega.{arith}
use lib.ListN.{length}
use Rattle.tables.specs.Mesh.{Mesh, none}
use mathlib.Core.Bool.{Bool, true, false}
use Rattle.std.specs.Prelude.{Result, Ok, Err, ⊤}
use Rattle.mesh_text.specs.Text.{text, TextMesh}
use Rattle.built_meshes.specs.Building.{build}
use Rattle.built_meshes.specs.declared.Ground.{Ground}
use Rattle.building_tests.specs.Lent.{limits_of}
use Rattle.building_tests.specs.declared.Bounds.{Bounds}
use Rattle.building_tests.specs.declared.Bounds.TheVariants.{General, Refine}
use Rattle.text_meshes.specs.TextBuilding.{is_too_long, lists_of, told, TextOutcome, of_form, build_text_if, build_text}
use Rattle.text_numbers.specs.Form.{Parsed, parsed, unparsed}
use Rattle.built_meshes.specs.Lists.{Lists}
use Rattle.built_meshes.specs.Grounds.{Where, lists, face, edge, whole, HasFewRows}
use Rattle.whole_grounds.specs.Turning.{lists_met}
use Rattle.whole_grounds.proofs.Theorem.{Answered, refuses, accepts, lists-came}
use Rattle.text_meshes.specs.Claims.{StandsFor}
use Rattle.text_meshes.specs.declared.TextRefusal.TheVariants.{Refused}
use Rattle.text_meshes.proofs.Theorem.{of-lists}
use Rattle.told_texts.specs.Told.{verdict_number, form_number, told_if, told_number}
use Rattle.explained_texts.specs.Numbers.{answer_number, NumberIsAnswer}

few : (b : Bounds) → (limits_of b).faces ≤ none
few General = omega arith
few Refine = omega arith

pub number-is-answer : NumberIsAnswer
unfolding told_number told_if form_number build_text build_text_if of_form
number-is-answer b s m rows = go (is_too_long b (length s)) refl (text s) refl
  where
    told-number :
        (l : Lists) (free : ¬ HasFewRows l m) (v : Result ⊤ Ground) → Answered (limits_of b) l m (few b) free v →
        verdict_number v ≡ answer_number (told (build (limits_of b) l m).answer)
    told-number l free v (refuses {g = g} a) = rw a
    told-number l free v (accepts {k = k} a) = rw a

    go :
        (x : Bool) → is_too_long b (length s) ≡ x → (y : Parsed TextMesh) → text s ≡ y →
        told_if x b s ≡ answer_number (build_text_if x b s m).answer
    go true e y q = refl
    go false e unparsed q = rw q
    go false e (parsed t n) q =
        let free = rows t (record { short = e; place = n; form = q }) in
        rw q
        (told-number (lists_of t) free (lists_met (limits_of b) (lists_of t)) (lists-came (limits_of b) (lists_of t) m (few b) free))
