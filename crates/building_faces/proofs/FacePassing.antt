-- One face, and the loop of `enter_faces`, over plain variables: the faces before f are in, a is the place at which the listed points of
-- face f begin, k edges stand, and pts, es, is, fs, ch are the tables and links; those at the beginning bear a 0. Assumes nothing.
use mathlib.Core.Path.{◌≡◌, refl, sym, ◌∙◌, ap}
use mathlib.Core.Bool.{Bool, true, false}
use mathlib.Core.List.{List, []}
use Prim.Native.Nat.{ℕ, zero, suc, ◌+◌, ◌-◌, ◌/◌, ◌≤◌, ◌<◌}
use native.Mathlib.Numerals.{add-one}
use native.Mathlib.Omega.{arith}
use native.Mathlib.Decide.{dec_le}
use lib.Ieee.{Float}
use lib.ListN.{length}
use Rattle.std.specs.Prelude.{Ok, Err}
use Rattle.tables.specs.Mesh.{Mesh, mesh_of}
use Rattle.audited_meshes.proofs.Tests.{and_is, leb-is}
use Rattle.built_meshes.specs.Lists.{Lists, size, offset}
use Rattle.built_meshes.specs.Faces.{size_fit, listed_in_range, no_point_twice, firsts_fit, sums_fit, face_verdict}
use Rattle.built_meshes.specs.Perimeters.{BuildState, Progress, on, stopped, places, closed_up, perimeter}
use Rattle.built_meshes.specs.Building.{face_if, face_passed, faces_from}
use Rattle.built_meshes.specs.declared.Version.{Version}
use Rattle.built_meshes.specs.declared.Ground.{Ground}
use Rattle.built_meshes.proofs.Perimeter.{offset-suc}
use Rattle.building_tests.specs.Lent.{lists, lists_in}
use Rattle.building_tests.proofs.Laws.{verdict_by, verdict-is}
use Rattle.edge_search.specs.Chains.{Standing}
use Rattle.building_faces.specs.Rings.{face_state_at, state_at, ListedFrom, Sided, FaceStands}

-- ---- one face

fit-tests : (a b c d e : Bool) → verdict_by a b c d e ≡ Ok tt → (a ≡ true) × (b ≡ true)
fit-tests true true c d e h = (refl, refl)
fit-tests true false c d e h = let z : ◌≡◌ {A = ℕ} 0 1 = cc in absurd (omega arith)
fit-tests false b c d e h = let z : ◌≡◌ {A = ℕ} 0 1 = cc in absurd (omega arith)

module _ (v : Version) (ss qs ls : List ℕ) (be : List Float) (np f a n : ℕ) (h : Sided ss ls f a n) where
  -- a face that passes its tests has points, and they are in range
  pub fit-placed : face_verdict (lists_in v [] ss qs ls be) np f a ≡ Ok tt → ListedFrom np ls a n × (0 < n)
  fit-placed fit =
      let t = fit-tests (size_fit n) (listed_in_range (lists [] [] ls []) np a n) (no_point_twice (lists [] [] ls []) a n)
      (firsts_fit v (lists_in v [] ss qs ls []) f a) (sums_fit v (lists [] ss [] be) f a) (sym (verdict-is v [] ss qs ls be np f a n h.is-size) ∙ fit) in (
        record { within = h.within; points = t.1 },
        let three = ((and_is (leb-is 3 n) (leb-is n 64)).0 t.0).0 in omega arith,
      )

  module _ (cs : List Float) (np-is : length cs / 3 ≡ np) (s : BuildState) where
    pub passed-fit : (x : Progress BuildState) → face_verdict (lists_in v cs ss qs ls be) np f a ≡ Ok tt
        → x ≡ closed_up f (places n (lists_in v cs ss qs ls be) f a n 0 (on (face_state_at s.mesh s.edges))) → x ≡ face_passed (lists_in v cs ss qs ls be) f a s
    unfolding face_passed face_if perimeter
    passed-fit x fit e = e ∙ rw (np-is, fit, h.is-size)

    pub passed-unfit : (g : Ground) → face_verdict (lists_in v cs ss qs ls be) np f a ≡ Err g
        → stopped g s.mesh ≡ face_passed (lists_in v cs ss qs ls be) f a s
    unfolding face_passed face_if
    passed-unfit g unfit = rw (np-is, unfit)

-- ---- all faces

offset-within : (l : Lists) (f n : ℕ) → f < n → offset l f + size l f ≤ offset l n
offset-within l f zero h = absurd (omega arith)
offset-within l f (suc n) h = go (dec_le (suc f) n) (offset-within l f n)
  where
    go : Dec (f < n) → (f < n → offset l f + size l f ≤ offset l n) → offset l f + size l f ≤ offset l (suc n)
    go (yes g) rest = let r = rest g in rw (offset-suc l n) (omega arith)
    go (no g) rest = let s : f ≡ n = omega arith in rw (offset-suc l n, s) (omega arith)

from-stopped : (j : ℕ) (l : Lists) (f a : ℕ) (g : Ground) (m : Mesh) → faces_from j l f a (stopped g m) ≡ stopped g m
unfolding faces_from
from-stopped zero l f a g m = refl
from-stopped (suc j) l f a g m = refl

-- one face less
from-turn : (l : Lists) (nf f a n : ℕ) (s : BuildState) (x : Progress BuildState) → f < nf → n ≡ size l f → x ≡ face_passed l f a s
    → faces_from (nf - (f + 1)) l (f + 1) (a + n) x ≡ faces_from (nf - f) l f a (on s)
unfolding faces_from
from-turn l nf f a n s x h e p = rw (p, e, less nf f h, add-one f)
  where
    less : (n i : ℕ) → i < n → n - i ≡ suc (n - (i + 1))
    less n i h = omega arith

module _ (v : Version) (np : ℕ) (ss qs ls : List ℕ) (be : List Float) (pts₀ es₀ : List ℕ) (is₀ : List Float) (fs₀ ch₀ : List ℕ) where
  pub record FacePassing (pts es : List ℕ) (is : List Float) (fs ch : List ℕ) (k a f : ℕ) : Type 0 where
    pub within : f ≤ length ss / 4
    pub points-length : length pts ≡ length pts₀
    pub edges-length : length es ≡ length es₀
    pub intervals-length : length is ≡ length is₀
    pub faces-length : length fs ≡ length fs₀
    pub links-length : length ch ≡ length ch₀
    pub standing : Standing np pts es ch k
    pub count : k ≤ a
    pub begins : a ≡ offset (lists [] ss [] []) f
    pub rest :
        (cs ps : List Float) → length cs / 3 ≡ np
        → faces_from (length ss / 4 - f) (lists_in v cs ss qs ls be) f a (on (state_at (mesh_of ps pts es is fs) k))
        ≡ faces_from (length ss / 4) (lists_in v cs ss qs ls be) 0 0 (on (state_at (mesh_of ps pts₀ es₀ is₀ fs₀) 0))

  pub face-start : Standing np pts₀ es₀ ch₀ 0 → FacePassing pts₀ es₀ is₀ fs₀ ch₀ 0 0 0
  unfolding offset
  face-start h =
      record {
        within = omega arith;
        points-length = refl;
        edges-length = refl;
        intervals-length = refl;
        faces-length = refl;
        links-length = refl;
        standing = h;
        count = omega arith;
        begins = refl;
        rest = λ cs ps e. ap (λ (j : ℕ). faces_from j (lists_in v cs ss qs ls be) 0 0 (on (state_at (mesh_of ps pts₀ es₀ is₀ fs₀) 0))) (none (length ss / 4));
      }
    where
      none : (n : ℕ) → n - 0 ≡ n
      none n = omega arith

  module _ (all : offset (lists [] ss [] []) (length ss / 4) ≡ length ls) (pts es : List ℕ) (is : List Float) (fs ch : List ℕ) (k a f n : ℕ)
      (h : FacePassing pts es is fs ch k a f) (l : f < length ss / 4) (e : n ≡ size (lists [] ss [] []) f) where
    pub face-sided : Sided ss ls f a n
    face-sided =
        let o = offset-within (lists [] ss [] []) f (length ss / 4) l in
        let b = h.begins in
        record { sides = omega arith; is-size = e; within = omega arith }

    module _ (pts' es' : List ℕ) (is' : List Float) (fs' ch' : List ℕ) where
      pub face-more : (c : ℕ)
          → ((cs ps : List Float) → length cs / 3 ≡ np
          → on (state_at (mesh_of ps pts' es' is' fs') c) ≡ face_passed (lists_in v cs ss qs ls be) f a (state_at (mesh_of ps pts es is fs) k))
          → FaceStands np pts' es' ch' (a + n) (Ok c)
          → length pts' ≡ length pts → length es' ≡ length es → length is' ≡ length is → length fs' ≡ length fs → length ch' ≡ length ch
          → FacePassing pts' es' is' fs' ch' c (a + n) (f + 1)
      face-more c passes s lp le li lf lc =
          record {
            within = omega arith;
            points-length = lp ∙ h.points-length;
            edges-length = le ∙ h.edges-length;
            intervals-length = li ∙ h.intervals-length;
            faces-length = lf ∙ h.faces-length;
            links-length = lc ∙ h.links-length;
            standing = s.0;
            count = s.1;
            begins = rw (add-one f, offset-suc (lists [] ss [] []) f) (let b = h.begins in omega arith);
            rest = λ cs ps z.
                from-turn (lists_in v cs ss qs ls be) (length ss / 4) f a n (state_at (mesh_of ps pts es is fs) k) (on (state_at (mesh_of ps pts' es' is' fs') c)) l
                e (passes cs ps z)
                ∙ h.rest cs ps z;
          }

      pub face-stop : (g : Ground) (cs ps : List Float) → length cs / 3 ≡ np
          → stopped g (mesh_of ps pts' es' is' fs') ≡ face_passed (lists_in v cs ss qs ls be) f a (state_at (mesh_of ps pts es is fs) k)
          → stopped g (mesh_of ps pts' es' is' fs') ≡ faces_from (length ss / 4) (lists_in v cs ss qs ls be) 0 0 (on (state_at (mesh_of ps pts₀ es₀ is₀ fs₀) 0))
      face-stop g cs ps z passes =
          sym (from-stopped (length ss / 4 - (f + 1)) (lists_in v cs ss qs ls be) (f + 1) (a + n) g (mesh_of ps pts' es' is' fs'))
          ∙ from-turn (lists_in v cs ss qs ls be) (length ss / 4) f a n (state_at (mesh_of ps pts es is fs) k) (stopped g (mesh_of ps pts' es' is' fs')) l e passes
          ∙ h.rest cs ps z

  module _ (pts es : List ℕ) (is : List Float) (fs ch : List ℕ) (k a f : ℕ) (h : FacePassing pts es is fs ch k a f) (l : length ss / 4 ≤ f) where
    pub face-end : (cs ps : List Float) → length cs / 3 ≡ np
        → on (state_at (mesh_of ps pts es is fs) k) ≡ faces_from (length ss / 4) (lists_in v cs ss qs ls be) 0 0 (on (state_at (mesh_of ps pts₀ es₀ is₀ fs₀) 0))
    unfolding faces_from
    face-end cs ps z = rw (none h.within l) at (h.rest cs ps z)
      where
        none : f ≤ length ss / 4 → length ss / 4 ≤ f → length ss / 4 - f ≡ 0
        none a b = omega arith

    pub faces-stand : offset (lists [] ss [] []) (length ss / 4) ≡ length ls → FaceStands np pts es ch (length ls) (Ok k)
    faces-stand all =
        let c = h.count in
        let b = h.begins in
        let s : f ≡ length ss / 4 = let w = h.within in omega arith in
        (h.standing, omega (arith, all, ap (λ (i : ℕ). offset (lists [] ss [] []) i) s))
