-- The loop of `enter_places`, over plain variables: the places before i are entered, ring is the ring then, and pts, es, is, ch are the
-- tables and links; those at the beginning bear a 0. Assumes nothing.
use mathlib.Core.Path.{◌≡◌, refl, sym, ◌∙◌, ap}
use mathlib.Core.List.{List}
use Prim.Native.Nat.{ℕ, zero, suc, ◌+◌, ◌-◌, ◌≤◌, ◌<◌}
use native.Mathlib.Numerals.{add-one}
use native.Mathlib.Omega.{arith}
use lib.Ieee.{Float}
use lib.ListN.{length}
use Rattle.std.specs.Prelude.{Ok}
use Rattle.tables.specs.Mesh.{Mesh, mesh_of}
use Rattle.built_meshes.specs.Lists.{Lists}
use Rattle.built_meshes.specs.Perimeters.{FaceState, Progress, on, stopped, turn, places}
use Rattle.built_meshes.specs.declared.Version.{Version}
use Rattle.built_meshes.specs.declared.Ground.{Ground}
use Rattle.building_tests.specs.Lent.{lists_in}
use Rattle.edge_search.specs.Chains.{Standing}
use Rattle.building_faces.specs.Rings.{face_state_of, face_state_at, ListedRoom, Closing, TurnStands}
use Rattle.building_faces.specs.declared.RingEdges.{RingEdges}

-- what is lent serves as well when the tables keep their lengths
pub lent_same : (ls : List ℕ) (be : List Float) (es₀ es : List ℕ) (is₀ is : List Float) (ch₀ ch : List ℕ)
    → length es ≡ length es₀ → length is ≡ length is₀ → length ch ≡ length ch₀ → ListedRoom ls be es₀ is₀ ch₀ → ListedRoom ls be es is ch
lent_same ls be es₀ es is₀ is ch₀ ch a b c h =
    record {
      edge-rows = rw a h.edge-rows;
      interval-rows = rw b h.interval-rows;
      link-rows = rw c h.link-rows;
      few = h.few;
      beside = h.beside;
    }

places-stopped : (j : ℕ) (l : Lists) (f a n i : ℕ) (g : Ground) (m : Mesh) → places j l f a n i (stopped g m) ≡ stopped g m
unfolding places
places-stopped zero l f a n i g m = refl
places-stopped (suc j) l f a n i g m = refl

-- one place less
places-turn : (l : Lists) (f a n i : ℕ) (r : FaceState) (x : Progress FaceState) → i < n → x ≡ turn l f a n i r
    → places (n - (i + 1)) l f a n (i + 1) x ≡ places (n - i) l f a n i (on r)
unfolding places
places-turn l f a n i r x h s = rw (add-one i, s, less n i h)
  where
    less : (n i : ℕ) → i < n → n - i ≡ suc (n - suc i)
    less n i h = omega arith

module _ (v : Version) (np : ℕ) (ls : List ℕ) (be : List Float) (f a n k : ℕ) (pts₀ es₀ : List ℕ) (is₀ : List Float) (ch₀ : List ℕ) where
  pub record Passing (pts es : List ℕ) (is : List Float) (ch : List ℕ) (ring : RingEdges) (i : ℕ) : Type 0 where
    pub within : i ≤ n
    pub points-length : length pts ≡ length pts₀
    pub edges-length : length es ≡ length es₀
    pub intervals-length : length is ≡ length is₀
    pub links-length : length ch ≡ length ch₀
    pub standing : Standing np pts es ch ring.edges
    pub count : ring.edges ≤ a + i
    pub closing : 0 < i → Closing ring
    pub rest :
        (cs : List Float) (ss qs : List ℕ) (ps : List Float) (fs : List ℕ)
        → places (n - i) (lists_in v cs ss qs ls be) f a n i (on (face_state_of (mesh_of ps pts es is fs) ring))
        ≡ places n (lists_in v cs ss qs ls be) f a n 0 (on (face_state_at (mesh_of ps pts₀ es₀ is₀ fs) k))

  pub passing-start : Standing np pts₀ es₀ ch₀ k → k ≤ a → Passing pts₀ es₀ is₀ ch₀ (record { edges = k; first = 0; before = 0 }) 0
  passing-start h l =
      record {
        within = omega arith;
        points-length = refl;
        edges-length = refl;
        intervals-length = refl;
        links-length = refl;
        standing = h;
        count = omega arith;
        closing = λ z. absurd (omega arith);
        rest = λ cs ss qs ps fs. ap (λ (j : ℕ). places j (lists_in v cs ss qs ls be) f a n 0 (on (face_state_at (mesh_of ps pts₀ es₀ is₀ fs) k))) (none n);
      }
    where
      none : (n : ℕ) → n - 0 ≡ n
      none n = omega arith

  module _ (pts es : List ℕ) (is : List Float) (ch : List ℕ) (ring : RingEdges) (i : ℕ) (h : Passing pts es is ch ring i) (l : i < n)
      (pts' es' : List ℕ) (is' : List Float) (ch' : List ℕ) where
    pub passing-more : (next : RingEdges)
        → ((cs : List Float) (ss qs : List ℕ) (ps : List Float) (fs : List ℕ)
        → on (face_state_of (mesh_of ps pts' es' is' fs) next) ≡ turn (lists_in v cs ss qs ls be) f a n i (face_state_of (mesh_of ps pts es is fs) ring))
        → TurnStands np pts' es' ch' (a + i + 1) (Ok next)
        → length pts' ≡ length pts → length es' ≡ length es → length is' ≡ length is → length ch' ≡ length ch
        → Passing pts' es' is' ch' next (i + 1)
    passing-more next turns s lp le li lc =
        let c = s.1 in
        record {
          within = omega arith;
          points-length = lp ∙ h.points-length;
          edges-length = le ∙ h.edges-length;
          intervals-length = li ∙ h.intervals-length;
          links-length = lc ∙ h.links-length;
          standing = s.0;
          count = omega arith;
          closing = λ z. s.2;
          rest = λ cs ss qs ps fs.
              places-turn (lists_in v cs ss qs ls be) f a n i (face_state_of (mesh_of ps pts es is fs) ring) (on (face_state_of (mesh_of ps pts' es' is' fs) next)) l
              (turns cs ss qs ps fs)
              ∙ h.rest cs ss qs ps fs;
        }

    pub passing-stop : (g : Ground) (cs : List Float) (ss qs : List ℕ) (ps : List Float) (fs : List ℕ)
        → stopped g (mesh_of ps pts' es' is' fs) ≡ turn (lists_in v cs ss qs ls be) f a n i (face_state_of (mesh_of ps pts es is fs) ring)
        → stopped g (mesh_of ps pts' es' is' fs) ≡ places n (lists_in v cs ss qs ls be) f a n 0 (on (face_state_at (mesh_of ps pts₀ es₀ is₀ fs) k))
    passing-stop g cs ss qs ps fs turns =
        sym (places-stopped (n - (i + 1)) (lists_in v cs ss qs ls be) f a n (i + 1) g (mesh_of ps pts' es' is' fs))
        ∙ places-turn (lists_in v cs ss qs ls be) f a n i (face_state_of (mesh_of ps pts es is fs) ring) (stopped g (mesh_of ps pts' es' is' fs)) l turns
        ∙ h.rest cs ss qs ps fs

  pub passing-end : (pts es : List ℕ) (is : List Float) (ch : List ℕ) (ring : RingEdges) (i : ℕ) → Passing pts es is ch ring i → n ≤ i
      → (cs : List Float) (ss qs : List ℕ) (ps : List Float) (fs : List ℕ)
      → on (face_state_of (mesh_of ps pts es is fs) ring) ≡ places n (lists_in v cs ss qs ls be) f a n 0 (on (face_state_at (mesh_of ps pts₀ es₀ is₀ fs) k))
  unfolding places
  passing-end pts es is ch ring i h l cs ss qs ps fs = rw (none h.within l) at (h.rest cs ss qs ps fs)
    where
      none : i ≤ n → n ≤ i → n - i ≡ 0
      none a b = omega arith

  pub passing-stands : (pts es : List ℕ) (is : List Float) (ch : List ℕ) (ring : RingEdges) (i : ℕ) → Passing pts es is ch ring i → n ≤ i
      → 0 < n → TurnStands np pts es ch (a + n) (Ok ring)
  passing-stands pts es is ch ring i h l z =
      let c = h.count in let w = h.within in (h.standing, omega arith, h.closing (omega arith))
