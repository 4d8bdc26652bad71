-- The loop of `radial_edges`, over plain variables. The walk about point p of the mesh m comes back; i of its n edges are stored in
-- the words xs, which began as xs₀, and e is the next. Assumes nothing.
use mathlib.Core.Path.{◌≡◌, refl, sym, ◌∙◌, ap, ap₂}
use mathlib.Core.Bool.{Bool, true, ◌&&◌}
use mathlib.Core.List.{List, [], ◌∷◌, ◌++◌}
use Prim.Native.Nat.{ℕ, ◌+◌, ◌<◌, ◌≤◌}
use native.Mathlib.Omega.{arith}
use lib.Dec.{ltb}
use lib.ListN.{length, get_or, set, length-set, get_or-append}
use Rattle.std.specs.Prelude.{Some, None}
use Rattle.tables.specs.Mesh.{Mesh, start}
use Rattle.tables.specs.Rows.{over}
use Rattle.tables.proofs.Laws.{over_none, over-more}
use Rattle.audited_meshes.specs.Walks.{Walk, back, lost, acw_of_point, touches, point_walk}
use Rattle.audited_meshes.proofs.Tests.{and_is, ltb-is, self-is}
use Rattle.walks.specs.Steps.{passed_by, radial_over}
use Rattle.walks.proofs.Back.{back-first, back_on, back-next, back-within}

-- a walk of which so many edges are answered comes back
pub record CameBack (w : Walk) (n : ℕ) : Type 0 where
  pub edges : List ℕ
  pub came : w ≡ back edges
  pub count : length edges ≡ n

pub back_is : (w : Walk) (n : ℕ) → Some n ≡ passed_by w → CameBack w n
back_is (back es) n h = record { edges = es; came = refl; count = cc }
back_is lost n h = let z : ◌≡◌ {A = ℕ} 0 1 = cc in absurd (omega arith)

-- nothing is stored where the walk is lost
pub radial-lost : (w : Walk) (xs : List ℕ) → None ≡ passed_by w → xs ≡ radial_over w xs
radial-lost (back es) xs h = let z : ◌≡◌ {A = ℕ} 0 1 = cc in absurd (omega arith)
radial-lost lost xs h = sym (over_none [] xs)

module _ (m : Mesh) (ne p n : ℕ) (xs₀ : List ℕ) where
  abbrev on : ℕ → Bool
  on e = ltb e ne && touches m p e

  pub record Radial (xs : List ℕ) (i e : ℕ) : Type 0 where
    pub within : i ≤ n
    pub whole : CameBack (point_walk m ne (length xs₀) p) n
    pub same_length : length xs ≡ length xs₀
    pub stands : xs ≡ over i whole.edges xs₀
    pub here : e ≡ get_or (whole.edges ++ start m p ∷ []) i 0

  pub radial-start : Some n ≡ passed_by (point_walk m ne (length xs₀) p) → Radial xs₀ 0 (start m p)
  unfolding point_walk
  radial-start h =
      let w = back_is (point_walk m ne (length xs₀) p) n h in
      let f = back-first (acw_of_point m p) on (start m p) (length xs₀) w.edges w.came in
      record {
        within = omega arith;
        whole = w;
        same_length = refl;
        stands = sym (over_none w.edges xs₀);
        here = sym (get_or-append w.edges (start m p ∷ []) 0 0 f.1 ∙ f.0);
      }

  module _ (xs : List ℕ) (i e : ℕ) (h : Radial xs i e) (l : i < n) where
    long : i < length h.whole.edges
    long = omega (arith, h.whole.count)

    at : e ≡ get_or h.whole.edges i 0
    at = h.here ∙ get_or-append h.whole.edges (start m p ∷ []) 0 i long

    pub radial-edge : e < ne
    unfolding point_walk
    radial-edge =
        let o : on e ≡ true = ap on at ∙ back_on (acw_of_point m p) on (start m p) (length xs₀) h.whole.edges h.whole.came i long in
        ((and_is (ltb-is e ne) (self-is (touches m p e))).0 o).0

    pub radial-place : i < length xs
    unfolding point_walk
    radial-place =
        let b : length h.whole.edges ≤ length xs₀ = back-within (acw_of_point m p) on (start m p) (length xs₀) h.whole.edges h.whole.came in
        omega (arith, h.whole.count, h.same_length)

    pub radial-more : (next : ℕ) → next ≡ acw_of_point m p e → Radial (set xs i e) (i + 1) next
    unfolding point_walk
    radial-more next to = record {
      within = omega arith;
      whole = h.whole;
      same_length = length-set xs i e ∙ h.same_length;
      stands = ap₂ (λ (t : List ℕ) (v : ℕ). set t i v) h.stands at ∙ over-more i h.whole.edges xs₀ 0 long (omega (arith, radial-place, h.same_length));
      here = to ∙ ap (acw_of_point m p) at ∙ back-next (acw_of_point m p) on (start m p) (length xs₀) h.whole.edges h.whole.came i long;
    }

  pub radial-end : (xs : List ℕ) (i e : ℕ) → Radial xs i e → n ≤ i → xs ≡ radial_over (point_walk m ne (length xs₀) p) xs₀
  radial-end xs i e h l =
      h.stands ∙ ap (λ (j : ℕ). over j h.whole.edges xs₀) (omega (arith, h.whole.count, h.within))
      ∙ ap (λ (w : Walk). radial_over w xs₀) (sym h.whole.came)
