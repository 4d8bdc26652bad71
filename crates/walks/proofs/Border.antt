-- The loop of `lay_border`, over plain variables. The walk about face f of the mesh m, along the edges below ne, has passed n edges
-- and come to e; es and ps are the arrays, which began as es₀ and ps₀. Assumes nothing.
--     border-start, border-more                  before the first edge, and one edge more
--     border-last, border-lost, border-out       what is laid where the walk ends: back at its start, on an edge that it may not pass,
--                                                with no edge left
--     border-of-laid, cleared                    laid into arrays of 0 it is the border, which is 0 where the walk is lost
--     laid-passed, laid-edge, laid-point         for callers: what was answered, and what stands at the first places
use mathlib.Core.Path.{◌≡◌, refl, sym, ◌∙◌, ap, subst}
use mathlib.Core.Bool.{Bool, ◌&&◌, true, false, false≢true}
use mathlib.Core.List.{List, [], ◌∷◌, ◌++◌, map}
use mathlib.Core.Logic.{◌≢◌}
use Prim.Native.Nat.{ℕ, ◌+◌, ◌<◌, ◌≤◌}
use native.Mathlib.Omega.{arith}
use lib.Dec.{ltb}
use lib.ListN.{length, get_or, set, replicate, length-set, length-append, length-map}
use Rattle.std.specs.Prelude.{Option, Some, None, is_some}
use Rattle.tables.specs.Mesh.{Mesh, face_start}
use Rattle.audited_meshes.specs.Walks.{Walk, back, lost, borders, acw_of_face, first_point, face_walk}
use Rattle.walks.specs.declared.FaceBorder.{FaceBorder}
use Rattle.walks.specs.Steps.{step_to, to_if, passed_by}
use Rattle.walks.specs.Border.{padded, laid, border_of, border, BorderLaid}
use Rattle.audited_meshes.specs.Folds.{again}
use Rattle.walks.proofs.Steps.{to_is, lost-is}
use Rattle.walks.proofs.Walking.{Walking, walking_start, walking-more, walking-lost, walking-last, walking-out}
use Rattle.walks.proofs.Radial.{CameBack, back_is}
use Rattle.walks.proofs.Laws.{laid-set, get_or-laid, length-laid, laid-zeros, get_or-padded, length-again, border-walk, border-passed}

map_snoc : (g : ℕ → ℕ) (xs : List ℕ) (v : ℕ) → map g (xs ++ v ∷ []) ≡ map g xs ++ g v ∷ []
map_snoc g [] v = refl
map_snoc g (x ∷ xs) v = ap (λ (t : List ℕ). g x ∷ t) (map_snoc g xs v)

-- an element is laid behind the n that stand there
store : (n : ℕ) (xs ys l : List ℕ) (v : ℕ) → length xs ≡ n → n < length ys → l ≡ laid xs ys → set l n v ≡ laid (xs ++ v ∷ []) ys
store n xs ys l v c h e =
    ap (λ (t : List ℕ). set t n v) e ∙ ap (λ (i : ℕ). set (laid xs ys) i v) (sym c) ∙ laid-set xs ys v (omega arith)

back-same : {rs ts : List ℕ} → back rs ≡ back ts → rs ≡ ts
back-same h = cc

lost-or-back : {es : List ℕ} → lost ≡ back es → ⊥
lost-or-back h = let z : ◌≡◌ {A = ℕ} 0 1 = cc in omega arith

module _ (m : Mesh) (ne f : ℕ) where
  abbrev on : ℕ → Bool
  on e = ltb e ne && borders m f e

  abbrev Way : List ℕ → ℕ → ℕ → Type 0
  Way passed n e = Walking (acw_of_face m f) on (face_start m f) 64 (face_walk m ne f) passed n e

  abbrev points : List ℕ → List ℕ
  points es = map (first_point m f) es

  module _ (es₀ ps₀ : List ℕ) where
    pub record Bordering (es ps : List ℕ) (n e : ℕ) : Type 0 where
      pub within : n ≤ 64
      pub passed : List ℕ
      pub way : Way passed n e
      pub edges-stand : es ≡ laid passed es₀
      pub points-stand : ps ≡ laid (points passed) ps₀

    pub border-start : Bordering es₀ ps₀ 0 (face_start m f)
    unfolding face_walk laid
    border-start = record {
      within = omega arith;
      passed = [];
      way = walking_start (acw_of_face m f) on (face_start m f) 64 (face_walk m ne f) refl;
      edges-stand = refl;
      points-stand = refl;
    }

    module _ (le : length es₀ ≡ 64) (lp : length ps₀ ≡ 68) (es ps : List ℕ) (n e : ℕ) (h : Bordering es ps n e) where
      -- the arrays keep their lengths
      same_edges : length es ≡ length es₀
      same_edges = ap length h.edges-stand ∙ length-laid h.passed es₀ (omega (arith, h.way.count, h.within))

      same_points : length ps ≡ length ps₀
      same_points =
          ap length h.points-stand
          ∙ length-laid (points h.passed) ps₀ (omega (arith, length-map h.passed (first_point m f), h.way.count, h.within))

      -- the arrays with the edge e
      edges-longer : n < 64 → set es n e ≡ laid (h.passed ++ e ∷ []) es₀
      edges-longer l = store n h.passed es₀ es e h.way.count (omega arith) h.edges-stand

      points-longer : (p : ℕ) → first_point m f e ≡ p → n < 64 → set ps n p ≡ laid (points (h.passed ++ e ∷ [])) ps₀
      points-longer p q l =
          store n (points h.passed) ps₀ ps p (length-map h.passed (first_point m f) ∙ h.way.count) (omega arith) h.points-stand
          ∙ ap (λ (t : List ℕ). laid t ps₀)
          (ap (λ (i : ℕ). points h.passed ++ i ∷ []) (sym q) ∙ sym (map_snoc (first_point m f) h.passed e))

      module _ (p next : ℕ) (to : Some (step_to p next) ≡ to_if (on e) (first_point m f e) (acw_of_face m f e)) (l : n < 64) where
        pub border-more : next ≢ face_start m f → Bordering (set es n e) (set ps n p) (n + 1) next
        border-more b =
            let t = to_is (on e) (first_point m f e) (acw_of_face m f e) p next to in
            subst (λ i. Bordering (set es n e) (set ps n p) (n + 1) i) t.2 record {
              within = omega arith;
              passed = h.passed ++ e ∷ [];
              way = walking-more (acw_of_face m f) on (face_start m f) 64 (face_walk m ne f) h.passed n e h.way l t.0 (λ q. b (sym t.2 ∙ q));
              edges-stand = edges-longer l;
              points-stand = points-longer p t.1 l;
            }

        pub border-last : (qs : List ℕ) → next ≡ face_start m f
            → ((xs ys : List ℕ) → length xs ≡ n + 1 → length ys ≡ 68 → set ps n p ≡ laid xs ys → qs ≡ laid (again 4 xs) ys)
            → BorderLaid m ne f (Some (n + 1)) (set es n e) qs es₀ ps₀
        border-last qs b four =
            let t = to_is (on e) (first_point m f e) (acw_of_face m f e) p next to in
            let whole : List ℕ = h.passed ++ e ∷ [] in
            let w = walking-last (acw_of_face m f) on (face_start m f) 64 (face_walk m ne f) h.passed n e h.way l t.0 (t.2 ∙ b) in
            let long : length whole ≡ n + 1 = length-append h.passed (e ∷ []) ∙ ap (λ (i : ℕ). i + 1) h.way.count in
            let many : length (points whole) ≡ n + 1 = length-map whole (first_point m f) ∙ long in
            let stand : qs ≡ laid (again 4 (points whole)) ps₀ = four (points whole) ps₀ many lp (points-longer p t.1 l) in
            record {
              answered = ap Some (sym long) ∙ ap passed_by (sym w);
              edges-long = length-set es n e ∙ same_edges;
              points-long = ap length stand ∙ length-laid (again 4 (points whole)) ps₀ (omega (arith, length-again 4 (points whole)));
              edges-laid = λ rs q. edges-longer l ∙ ap (λ (x : List ℕ). laid x es₀) (back-same (sym w ∙ q));
              points-laid = λ rs q. stand ∙ ap (λ (x : List ℕ). laid (again 4 (points x)) ps₀) (back-same (sym w ∙ q));
            }

      -- nothing is said of the arrays of a walk that is lost but their lengths
      no-border : face_walk m ne f ≡ lost → BorderLaid m ne f None es ps es₀ ps₀
      no-border w = record {
        answered = ap passed_by (sym w);
        edges-long = same_edges;
        points-long = same_points;
        edges-laid = λ rs q. absurd (lost-or-back (sym w ∙ q));
        points-laid = λ rs q. absurd (lost-or-back (sym w ∙ q));
      }

      pub border-lost : None ≡ to_if (on e) (first_point m f e) (acw_of_face m f e) → n < 64 → BorderLaid m ne f None es ps es₀ ps₀
      border-lost o l =
          no-border (walking-lost (acw_of_face m f) on (face_start m f) 64 (face_walk m ne f) h.passed n e h.way l
          (lost-is (on e) (first_point m f e) (acw_of_face m f e) o))

      pub border-out : 64 ≤ n → BorderLaid m ne f None es ps es₀ ps₀
      border-out l = no-border (walking-out (acw_of_face m f) on (face_start m f) 64 (face_walk m ne f) h.passed n e h.way l)

  -- ---- the border in arrays of 0

  -- laid into arrays of 0, it is the border
  padded-border : (xs qs es : List ℕ) (n : ℕ) → face_walk m ne f ≡ back es → length es ≡ n → xs ≡ padded 64 es
      → qs ≡ padded 68 (again 4 (points es))
      → ◌≡◌ {A = FaceBorder} (record { passed = Some n; edges = xs; points = qs }) (border m ne f)
  unfolding border
  padded-border xs qs es n w k a b = rw (w, a, b, ← k)

  laid-back : (xs qs xs₀ qs₀ : List ℕ) {n : ℕ} → BorderLaid m ne f (Some n) xs qs xs₀ qs₀
      → xs₀ ≡ replicate 64 0 → qs₀ ≡ replicate 68 0
      → ◌≡◌ {A = FaceBorder} (record { passed = Some n; edges = xs; points = qs }) (border m ne f)
  laid-back xs qs xs₀ qs₀ {n} h a b =
      let w = back_is (face_walk m ne f) n h.answered in
      let all : List ℕ = again 4 (points w.edges) in
      padded-border xs qs w.edges n w.came w.count
      (h.edges-laid w.edges w.came ∙ ap (laid w.edges) a ∙ laid-zeros 64 w.edges)
      (h.points-laid w.edges w.came ∙ ap (laid all) b ∙ laid-zeros 68 all)

  pub border-of-laid : (answer : Option ℕ) (xs qs xs₀ qs₀ : List ℕ) → BorderLaid m ne f answer xs qs xs₀ qs₀
      → xs₀ ≡ replicate 64 0 → qs₀ ≡ replicate 68 0 → is_some answer ≡ true
      → ◌≡◌ {A = FaceBorder} (record { passed = answer; edges = xs; points = qs }) (border m ne f)
  border-of-laid (Some n) xs qs xs₀ qs₀ h a b came = laid-back xs qs xs₀ qs₀ h a b
  border-of-laid None xs qs xs₀ qs₀ h a b came = absurd (false≢true came)

  -- arrays of 0 are the border of a walk that is lost
  zeros-lost : (w : Walk) → None ≡ passed_by w
      → ◌≡◌ {A = FaceBorder} (record { passed = None; edges = replicate 64 0; points = replicate 68 0 }) (border_of m f w)
  unfolding padded
  zeros-lost (back es) h = let z : ◌≡◌ {A = ℕ} 0 1 = cc in absurd (omega arith)
  zeros-lost lost h = refl

  pub cleared : (answer : Option ℕ) (es ps : List ℕ) → es ≡ replicate 64 0 → ps ≡ replicate 68 0 → is_some answer ≡ false
      → answer ≡ passed_by (face_walk m ne f) → ◌≡◌ {A = FaceBorder} (record { passed = answer; edges = es; points = ps }) (border m ne f)
  unfolding border
  cleared (Some n) es ps a b gone h = absurd (false≢true (sym gone))
  cleared None es ps a b gone h = rw (a, b) (zeros-lost (face_walk m ne f) h)

  -- ---- what callers read from the arrays

  module _ (answer : Option ℕ) (xs qs xs₀ qs₀ : List ℕ) (h : BorderLaid m ne f answer xs qs xs₀ qs₀) where
    pub laid-passed : answer ≡ (border m ne f).passed
    laid-passed = h.answered ∙ sym (border-passed m ne f)

    module _ {n : ℕ} (came : answer ≡ Some n) where
      walked : CameBack (face_walk m ne f) n
      walked = back_is (face_walk m ne f) n (sym came ∙ h.answered)

      stands : border m ne f ≡ border_of m f (back walked.edges)
      stands = border-walk m ne f ∙ ap (border_of m f) walked.came

      pub laid-edge : (i : ℕ) → i < n → get_or xs i 0 ≡ get_or (border m ne f).edges i 0
      laid-edge i l =
          ap (λ (t : List ℕ). get_or t i 0) (h.edges-laid walked.edges walked.came)
          ∙ get_or-laid walked.edges xs₀ i (omega (arith, walked.count))
          ∙ sym (get_or-padded 64 walked.edges i)
          ∙ ap (λ (b : FaceBorder). get_or b.edges i 0) (sym stands)

      pub laid-point : (i : ℕ) → i < n + 4 → get_or qs i 0 ≡ get_or (border m ne f).points i 0
      laid-point i l =
          let all : List ℕ = again 4 (points walked.edges) in
          let many : length all ≡ length (points walked.edges) + 4 = length-again 4 (points walked.edges) in
          ap (λ (t : List ℕ). get_or t i 0) (h.points-laid walked.edges walked.came)
          ∙ get_or-laid all qs₀ i (omega (arith, many, length-map walked.edges (first_point m f), walked.count))
          ∙ sym (get_or-padded 68 all i)
          ∙ ap (λ (b : FaceBorder). get_or b.points i 0) (sym stands)
