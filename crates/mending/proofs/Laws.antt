-- The laws of pairing the places of all faces in local lists. Assumes nothing.
use mathlib.Core.Path.{◌≡◌, refl, sym, ◌∙◌, ap}
use mathlib.Core.Bool.{Bool, true, false, not, ◌&&◌}
use mathlib.Core.List.{List, []}
use Prim.Native.Nat.{ℕ, zero, suc, ◌+◌, ◌/◌, ◌≤◌, ◌<◌}
use native.Mathlib.Omega.{arith}
use lib.Dec.{eqb}
use lib.Ieee.{Float}
use lib.ListN.{length, get_or, replicate, get_or-replicate, length-replicate}
use Rattle.std.specs.Prelude.{Result, Ok, Err, ⊤}
use Rattle.audited_meshes.specs.Folds.{every}
use Rattle.built_meshes.specs.Lists.{offset}
use Rattle.built_meshes.specs.declared.Ground.{Ground}
use Rattle.built_meshes.specs.declared.Ground.TheVariants.{MissingFace}
use Rattle.building_tests.specs.Lent.{lists}
use Rattle.mended_lists.specs.Edges.{places_of, latest, mate, follower, lone}
use Rattle.mended_lists.specs.Mending.{edges_shared}
use Rattle.mended_lists.proofs.Edges.{places-length}
use Rattle.shared_edges.specs.Chains.{low_at, mate_at, second_at, PlacesChained, PlacesEntered}
use Rattle.shared_edges.proofs.Laws.{latest-same}
use Rattle.face_places.proofs.Laws.{same-offset}
use Rattle.face_mending.specs.Shown.{FacesRoom, TosShown}
use Rattle.face_mending.proofs.Laws.{every-same, mate-shown}
use Rattle.mending.specs.Shared.{PairingRoom, then_shared, MatesIf}

pub unfit-shared : (v : Result ⊤ Ground) (s : Bool) (g : Ground) → v ≡ Err g → Err g ≡ then_shared v s
unfit-shared v s g e = rw e

pub fit-shared : (v : Result ⊤ Ground) (s : Bool) → v ≡ Ok tt → s ≡ true → Ok tt ≡ then_shared v s
fit-shared v s e h = rw (e, h)

pub not-shared : (v : Result ⊤ Ground) (s : Bool) → v ≡ Ok tt → s ≡ false → Err MissingFace ≡ then_shared v s
not-shared v s e h = rw (e, h)

-- ---- lists of zeros hold no place

pub nothing-entered :
    (ls ts mates : List ℕ) (nh nl ns : ℕ) → PlacesEntered ls ts (replicate nh 0) (replicate nl 0) mates (replicate ns 0) 0
nothing-entered ls ts mates nh nl ns =
    record {
      chained =
          record {
            head = λ p b. get_or-replicate nh p 0 0 (rw (length-replicate {A = ℕ} nh 0) at b) ∙ unfold latest in refl;
            link = λ j b. absurd (never j b);
          };
      mate-is = λ j b. absurd (never j b);
      second_is = λ j b. get_or-replicate ns j 0 0 (rw (length-replicate {A = ℕ} ns 0) at b) ∙ unfold latest in refl;
    }
  where
    never : (j : ℕ) → j < 0 → ⊥
    never j b = omega arith

pub faces-room :
    (ss fs ls : List ℕ) (is : List Float) (ts mates : List ℕ) (np : ℕ) → PairingRoom ss fs ls is ts mates np →
    FacesRoom ss fs ls is ts 4096 (replicate 16384 0) mates (replicate 16384 0) np
faces-room ss fs ls is ts mates np r =
    record {
      all_listed = r.all_listed;
      firsts-fit = r.firsts-fit;
      intervals-fit = r.intervals-fit;
      tos-fit = r.tos-fit;
      points-fit = r.points-fit;
      links-fit = rw (length-replicate {A = ℕ} 16384 0) r.few;
      mates-fit = omega (arith, r.mates-fit);
      seconds-fit = rw (length-replicate {A = ℕ} 16384 0) r.few;
      few = r.few;
      few-faces = r.few-faces;
    }

-- ---- all places are entered

module _ (ss ls ts heads links mates seconds : List ℕ) (shown : TosShown ss ls ts)
    (all : offset (lists [] ss [] []) (length ss / 4) ≡ length ls) (like : length mates ≡ length ls)
    (room : length mates ≤ length seconds) (e : PlacesEntered ls ts heads links mates seconds (length ls)) where
  pub mates-are : (k : ℕ) → k < length mates → get_or mates k 0 ≡ mate (places_of (lists [] ss ls [])) k
  mates-are k b = e.mate-is k (omega arith) ∙ mate-shown ss ls ts shown all k (omega arith)

  places-many : length (places_of (lists [] ss ls [])) ≡ length mates
  places-many =
      places-length (lists [] ss ls []) ∙ sym (same-offset ss ls (length ss / 4)) ∙ all ∙ sym like

  seconds-are : (k : ℕ) → k < length mates → get_or seconds k 0 ≡ follower (places_of (lists [] ss ls [])) (length mates) k
  unfolding follower
  seconds-are k b =
      e.second_is k (omega arith)
      ∙ ap (λ (n : ℕ). second_at ls ts n k) (sym like)
      ∙ latest-same (λ i. eqb (mate_at ls ts i) (suc k)) (λ i. eqb (mate (places_of (lists [] ss ls [])) i) (suc k)) (length mates)
      (λ i c. ap (λ (x : ℕ). eqb x (suc k)) (mate-shown ss ls ts shown all i (omega arith)))

  pub shared-is :
      every (length mates) (λ k. not (eqb (get_or mates k 0) 0 && eqb (get_or seconds k 0) 0)) ≡ edges_shared (places_of (lists [] ss ls []))
  unfolding edges_shared lone
  shared-is =
      every-same (length mates) (λ k. not (eqb (get_or mates k 0) 0 && eqb (get_or seconds k 0) 0))
      (λ k. not (eqb (mate (places_of (lists [] ss ls [])) k) 0 && eqb (follower (places_of (lists [] ss ls [])) (length mates) k) 0))
      (λ k b. both k b)
      ∙ ap
      (λ (n : ℕ). every n (λ k. not (eqb (mate (places_of (lists [] ss ls [])) k) 0 && eqb (follower (places_of (lists [] ss ls [])) n k) 0)))
      (sym places-many)
    where
      both :
          (k : ℕ) → k < length mates →
          not (eqb (get_or mates k 0) 0 && eqb (get_or seconds k 0) 0)
          ≡ not (eqb (mate (places_of (lists [] ss ls [])) k) 0 && eqb (follower (places_of (lists [] ss ls [])) (length mates) k) 0)
      both k b = rw (mates-are k b, seconds-are k b)
