-- The claims of building. Assumes nothing.
--     build-came             what comes of building: the ground that is met first, or an audited mesh of which none is met
--     first-ground, refusals-hold, accepts-exactly, accepted-audited, untouched-beyond     the claims of `specs/Claims.antt`
--     accepted-builds        the claim of `specs/Builds.antt`
--     zeroed-after           zeroing what stands after the faces leaves the same as zeroing the lent tables
use mathlib.Core.Path.{◌≡◌, refl, sym, ◌∙◌, ap, subst}
use mathlib.Core.Bool.{Bool, true, false, not}
use mathlib.Core.Logic.{◌≢◌}
use Prim.Native.Nat.{ℕ, suc, ◌*◌, ◌<◌, ◌≤◌}
use native.Mathlib.Omega.{arith}
use lib.Dec.{eqb}
use borrow.Author.Tests.{ne_eqb}
use Rattle.std.specs.Prelude.{Result, Ok, Err, ⊤}
use Rattle.t_spline.specs.Edge.{none}
use Rattle.tables.specs.Mesh.{Mesh}
use Rattle.tables.specs.declared.Counts.{Counts}
use Rattle.audited_meshes.specs.Folds.{one_if}
use Rattle.audited_meshes.proofs.Folds.{sum_to-cong, sum_to-const}
use Rattle.audited_meshes.proofs.Audited.{audit-is-audited}
use Rattle.built_meshes.specs.Lists.{Lists, points_of, faces_of, rows_of, counts_fit, listed_fit}
use Rattle.tables.specs.declared.Sizes.{Sizes}
use Rattle.tables.specs.Counted.{rows_for, zeroed_rows}
use Rattle.built_meshes.specs.Perimeters.{BuildState, Progress, on, stopped}
use Rattle.built_meshes.specs.Answers.{ground_number}
use Rattle.built_meshes.specs.Whole.{whole_verdict, finished}
use Rattle.built_meshes.specs.Building.{BuildOutcome, build_refusal, whole_if, answered, all_faces, build_if, build}
use Rattle.built_meshes.specs.Beyond.{Within}
use Rattle.built_meshes.specs.Builds.{Builds, AcceptedBuilds}
use Rattle.built_meshes.specs.Grounds.{IsOverCounts, Where, lists, whole, Met, over-counts, unfit-number, few-rows}
use Rattle.built_meshes.specs.Grounds.{face-size, out_of_range, point-twice, first-point, non-rectangular, triple-face}
use Rattle.built_meshes.specs.Grounds.{same_way, missing-face, no_edge, missed-edge, FirstMet, Holds}
use Rattle.built_meshes.specs.Claims.{FirstGround, RefusedBy, RefusalsHold, AcceptsExactly, AuditedCounts, AcceptedAudited, UntouchedBeyond}
use Rattle.built_meshes.specs.declared.Ground.{Ground}
use Rattle.built_meshes.specs.declared.Ground.TheVariants.{OverCounts, UnfitNumber, FewRows, FaceSize, OutOfRange}
use Rattle.built_meshes.specs.declared.Ground.TheVariants.{PointTwice, FirstPoint, NonRectangularFace, EdgeTripleFace}
use Rattle.built_meshes.specs.declared.Ground.TheVariants.{SameWay, MissingFace, NoEdge, MissedEdge}
use Rattle.built_meshes.proofs.Rows.{row}
use Rattle.built_meshes.proofs.Beyond.{within-refl, within-trans, zeroed_rows-within}
use Rattle.built_meshes.proofs.Entering.{counted}
use Rattle.built_meshes.proofs.Perimeter.{Faces}
use Rattle.built_meshes.proofs.Before.{ClearLists, first-lists, first-once}
use Rattle.built_meshes.proofs.Faces.{FitFaces, FacesCame, stand, stop, faces-came}
use Rattle.built_meshes.proofs.Begin.{row-zeroed, Counted, counts-is, counts-fail, counted-fits, Numbered}
use Rattle.built_meshes.proofs.Begin.{numbers-is, numbers-fail, numbered-fits, Roomy, rows_is, rows-fail}
use Rattle.built_meshes.proofs.Begin.{roomy-fits, listed-all, within-zeroed, ready, faces-none}
use Rattle.built_meshes.proofs.Finished.{within-finished, audited-finished}
use Rattle.built_meshes.proofs.Builds.{builds-finished}
use Rattle.built_meshes.proofs.Refusals.{WholeFit, WholeVerdict, whole-fit, whole-unfit, whole-verdict-is}

-- two sides of each edge, where none lacks its right face
counted-all : (m : Mesh) (ne : ℕ) → ((e : ℕ) → e < ne → (row m e).face_right ≢ none) → counted m ne ≡ 2 * ne
unfolding counted
counted-all m ne right =
    sum_to-cong ne (λ e. suc (one_if (not (eqb (row m e).face_right none)))) (λ e. 2)
    (λ e b. ap (λ t. suc (one_if (not t))) (ne_eqb (row m e).face_right none (right e b)))
    ∙ sum_to-const ne 2

module _ (c : Sizes) (l : Lists) (m : Mesh) (few : c.faces ≤ none) where
  data CameOut : BuildOutcome → Type 0 where
    refuses-early : {g : Ground} (w : Where) → FirstMet c l m w g → ground_number g < 10 → CameOut (build_refusal g m)
    refuses : {g : Ground} (w : Where) → FirstMet c l m w g → 10 ≤ ground_number g → Within l m (zeroed_rows (rows_of l) m) → CameOut (build_refusal g (zeroed_rows (rows_of l) m))
    accepts :
        {k : Counts} {t : Mesh} → AuditedCounts l t k → Builds l t k.edges → Within l m t → ((w : Where) (g : Ground) → ¬ Met c l m w g) →
        CameOut (record { answer = Ok k; tables = t })

  module _ (counted' : Counted c l) (numbered : Numbered l) (roomy : Roomy l m) where
    pub clear : ClearLists c l m
    clear = record { counts = counted-fits c l counted'; numbers = numbered-fits l numbered; rows = roomy-fits l m roomy }

    module _ (s : BuildState) (all : Faces l (faces_of l) s) (fit : FitFaces c l m (faces_of l)) (within : Within l m s.mesh)
        (later : (x : ℕ) → s.edges ≤ x → row s.mesh x ≡ row (zeroed_rows (rows_of l) m) x) (w : WholeFit c l m s all) where
      audited-counts : AuditedCounts l (finished l s.mesh) (record { points = points_of l; edges = s.edges; faces = faces_of l })
      unfolding finished
      audited-counts =
          record {
            passes =
                (audit-is-audited (finished l s.mesh) (points_of l) s.edges (faces_of l)).1
                (audited-finished c l m counted' numbered roomy few s all fit within w.right w.edged w.walked);
            all-points = refl;
            all-faces = refl;
            half-listed = sym (counted-all s.mesh s.edges w.right) ∙ all.counts ∙ listed-all c l m counted' numbered roomy few;
            zero-beyond = λ e h b. later e h ∙ row-zeroed c l m counted' numbered roomy few e b;
          }

      builds-after : Builds l (finished l s.mesh) s.edges
      builds-after = builds-finished c l m counted' roomy s all within w.right w.edged (λ f b. (fit.sound f b).at-least-3)

      within-after : Within l m (finished l s.mesh)
      within-after = within-finished c l m counted' numbered roomy few s all fit within w.right w.edged w.walked

    answered-came : CameOut (answered l m (all_faces l m))
    unfolding answered whole_if all_faces
    answered-came =
        go (all_faces l m)
        (faces-came c l m clear (record { mesh = zeroed_rows (rows_of l) m; edges = 0 }) (ready c l m counted' numbered roomy few) (faces-none c l m counted' numbered roomy few))
      where
        zeros : Within l m (zeroed_rows (rows_of l) m)
        zeros = within-zeroed c l m counted' numbered roomy few

        whole-came : (s : BuildState) (all : Faces l (faces_of l) s) → FitFaces c l m (faces_of l) → Within l m s.mesh →
            ((x : ℕ) → s.edges ≤ x → row s.mesh x ≡ row (zeroed_rows (rows_of l) m) x) →
            (x : Result ⊤ Ground) → WholeVerdict c l m s all x → CameOut (whole_if l m s x)
        whole-came s all fit within later x (whole-fit w n) =
            accepts (audited-counts s all fit within later w) (builds-after s all fit within later w) (within-after s all fit within later w) n
        whole-came s all fit within later x (whole-unfit {g = g} h n) = refuses {g = g} whole h (omega arith) zeros

        go : (x : Progress BuildState) → FacesCame c l m (record { mesh = zeroed_rows (rows_of l) m; edges = 0 }) x → CameOut (answered l m x)
        go x (stand {t = s} all fit within later) =
            whole-came s all fit (within-trans l zeros within) later (whole_verdict s.mesh (points_of l) s.edges) (whole-verdict-is c l m s all clear fit)
        go x (stop {g = g} w h n o) = refuses {g = g} w h n zeros

  build-came : CameOut (build c l m)
  unfolding build build_if
  build-came = counts (counts_fit c l) refl
    where
      rows : Counted c l → Numbered l → (b : Bool) → rows_for (rows_of l) m ≡ b → CameOut (build_if true true b l m)
      rows h k true e = answered-came h k (rows_is l m e)
      rows h k false e =
          refuses-early {g = FewRows} lists
          (first-lists c l m 4 (λ z. counted-fits c l h) (λ z. numbered-fits l k) (omega arith) FewRows refl (few-rows (rows-fail l m e))) (omega arith)

      numbers : Counted c l → (b : Bool) → listed_fit l ≡ b → CameOut (build_if true b (rows_for (rows_of l) m) l m)
      numbers h true e = rows h (numbers-is l e) (rows_for (rows_of l) m) refl
      numbers h false e =
          refuses-early {g = UnfitNumber} lists
          (first-lists c l m 3 (λ z. counted-fits c l h) (λ z. absurd (omega arith)) (omega arith) UnfitNumber refl (unfit-number (numbers-fail l e))) (omega arith)

      counts : (b : Bool) → counts_fit c l ≡ b → CameOut (build_if b (listed_fit l) (rows_for (rows_of l) m) l m)
      counts true e = numbers (counts-is c l e) (listed_fit l) refl
      counts false e =
          refuses-early {g = OverCounts} lists
          (first-lists c l m 2 (λ z. absurd (omega arith)) (λ z. absurd (omega arith)) (omega arith) OverCounts refl (over-counts (counts-fail c l e))) (omega arith)

pub first-ground : FirstGround
first-ground c l m few g = (to (build c l m) (build-came c l m few), λ w. from (build c l m) (build-came c l m few) w.0 w.1)
  where
    to : (o : BuildOutcome) → CameOut c l m few o → o.answer ≡ Err g → (w : Where) × FirstMet c l m w g
    to o (refuses-early {g = g'} w h n) a = let same : g' ≡ g = cc in (w, subst (λ g. FirstMet c l m w g) same h)
    to o (refuses {g = g'} w h n z) a = let same : g' ≡ g = cc in (w, subst (λ g. FirstMet c l m w g) same h)
    to o (accepts h b w n) a = let z : ◌≡◌ {A = ℕ} 0 1 = cc in absurd (omega arith)

    from : (o : BuildOutcome) → CameOut c l m few o → (w : Where) → FirstMet c l m w g → o.answer ≡ Err g
    from o (refuses-early {g = g'} w' h n) w f = ap Err (first-once c l m w' g' w g h f)
    from o (refuses {g = g'} w' h n z) w f = ap Err (first-once c l m w' g' w g h f)
    from o (accepts h b z n) w f = absurd (n w g f.met)

pub refusals-hold : RefusalsHold
refusals-hold c l m few g answer = go (build c l m) refl (build-came c l m few) answer
  where
    first : (w : Where) × FirstMet c l m w g
    first = (first-ground c l m few g).0 answer

    holds' : Holds c l m g
    holds' = (first.0, first.1.met)

    go : (o : BuildOutcome) → build c l m ≡ o → CameOut c l m few o → o.answer ≡ Err g → RefusedBy c l m g
    go o e (refuses-early {g = g'} w h n) a =
        let same : g' ≡ g = cc in
        let less : ground_number g < 10 = subst (λ g. ground_number g < 10) same n in
        record { holds = holds'; untouched = λ z. ap (λ (o : BuildOutcome). o.tables) e; zeroed = λ z. absurd (omega arith) }
    go o e (refuses {g = g'} w h n x) a =
        let same : g' ≡ g = cc in
        let more : 10 ≤ ground_number g = subst (λ g. 10 ≤ ground_number g) same n in
        record { holds = holds'; untouched = λ z. absurd (omega arith); zeroed = λ z. ap (λ (o : BuildOutcome). o.tables) e }
    go o e (accepts h b w n) a = let z : ◌≡◌ {A = ℕ} 0 1 = cc in absurd (omega arith)

pub accepts-exactly : AcceptsExactly
accepts-exactly c l m few = (λ a g h. to (build c l m) (build-came c l m few) a.0 a.1 h.0 g h.1, λ h. from (build c l m) (build-came c l m few) h)
  where
    to : (o : BuildOutcome) → CameOut c l m few o → (k : Counts) → o.answer ≡ Ok k → (w : Where) (g : Ground) → ¬ Met c l m w g
    to o (refuses-early w h n) k a = let z : ◌≡◌ {A = ℕ} 0 1 = cc in absurd (omega arith)
    to o (refuses w h n z) k a = let y : ◌≡◌ {A = ℕ} 0 1 = cc in absurd (omega arith)
    to o (accepts h b w n) k a = n

    from : (o : BuildOutcome) → CameOut c l m few o → ((g : Ground) → ¬ Holds c l m g) → (k : Counts) × (o.answer ≡ Ok k)
    from o (refuses-early {g = g} w h n) none' = absurd (none' g (w, h.met))
    from o (refuses {g = g} w h n z) none' = absurd (none' g (w, h.met))
    from o (accepts {k = k} h b w n) none' = (k, refl)

-- the condition of ground 2
pub over-of : (c : Sizes) (l : Lists) (m : Mesh) → Holds c l m OverCounts → IsOverCounts c l
over-of c l m (w, h) = go w OverCounts h refl
  where
    differs : {A : Type 0} (g : Ground) → ground_number g ≡ 2 → 3 ≤ ground_number g → A
    differs g h k = absurd (omega arith)

    go : (w : Where) (g : Ground) → Met c l m w g → ground_number g ≡ 2 → IsOverCounts c l
    go w g (over-counts h) e = h
    go w g (unfit-number h) e = differs UnfitNumber e (omega arith)
    go w g (few-rows h) e = differs FewRows e (omega arith)
    go w g (face-size f is h) e = differs FaceSize e (omega arith)
    go w g (out_of_range f i is h) e = differs OutOfRange e (omega arith)
    go w g (point-twice f i j is h k) e = differs PointTwice e (omega arith)
    go w g (first-point f k j two is b h d) e = differs FirstPoint e (omega arith)
    go w g (non-rectangular f is h) e = differs NonRectangularFace e (omega arith)
    go w g (triple-face f i g' j h k p q r a b x y z) e = differs EdgeTripleFace e (omega arith)
    go w g (same_way f i g' j p q r t x) e = differs SameWay e (omega arith)
    go w g (missing-face h) e = differs MissingFace e (omega arith)
    go w g (no_edge h) e = differs NoEdge e (omega arith)
    go w g (missed-edge h) e = differs MissedEdge e (omega arith)

pub accepted-audited : AcceptedAudited
accepted-audited c l m few k answer = go (build c l m) (build-came c l m few) answer
  where
    go : (o : BuildOutcome) → CameOut c l m few o → o.answer ≡ Ok k → AuditedCounts l o.tables k
    go o (refuses-early w h n) a = let z : ◌≡◌ {A = ℕ} 0 1 = cc in absurd (omega arith)
    go o (refuses x h n w) a = let z : ◌≡◌ {A = ℕ} 0 1 = cc in absurd (omega arith)
    go o (accepts {k = k'} {t = t} h b w n) a = let same : k' ≡ k = cc in subst (λ k. AuditedCounts l t k) same h

pub accepted-builds : AcceptedBuilds
accepted-builds c l m few k answer = go (build c l m) (build-came c l m few) answer
  where
    go : (o : BuildOutcome) → CameOut c l m few o → o.answer ≡ Ok k → Builds l o.tables k.edges
    go o (refuses-early w h n) a = let z : ◌≡◌ {A = ℕ} 0 1 = cc in absurd (omega arith)
    go o (refuses x h n w) a = let z : ◌≡◌ {A = ℕ} 0 1 = cc in absurd (omega arith)
    go o (accepts {k = k'} {t = t} h b w n) a = let same : k' ≡ k = cc in subst (λ (k : Counts). Builds l t k.edges) same b

pub untouched-beyond : UntouchedBeyond
untouched-beyond c l m few = go (build c l m) (build-came c l m few)
  where
    go : (o : BuildOutcome) → CameOut c l m few o → Within l m o.tables
    go o (refuses-early w h n) = within-refl l m
    go o (refuses x h n w) = w
    go o (accepts h b w n) = w

-- ---- for the code, which zeroes the tables as they stand when a ground stops it

-- the tables of a step
abbrev pub tables_of : Progress BuildState → Mesh
tables_of (on s) = s.mesh
tables_of (stopped g t) = t

pub zeroed-after :
    (c : Sizes) (l : Lists) (m : Mesh) → c.faces ≤ none → counts_fit c l ≡ true → listed_fit l ≡ true → rows_for (rows_of l) m ≡ true →
    zeroed_rows (rows_of l) (tables_of (all_faces l m)) ≡ zeroed_rows (rows_of l) m
unfolding all_faces
zeroed-after c l m few counts numbers rows =
    zeroed_rows-within l m (tables_of (all_faces l m))
    (within-trans l (within-zeroed c l m (counts-is c l counts) (numbers-is l numbers) (rows_is l m rows) few)
    (go (all_faces l m)
    (faces-came c l m (clear c l m few (counts-is c l counts) (numbers-is l numbers) (rows_is l m rows)) (record { mesh = zeroed_rows (rows_of l) m; edges = 0 })
    (ready c l m (counts-is c l counts) (numbers-is l numbers) (rows_is l m rows) few)
    (faces-none c l m (counts-is c l counts) (numbers-is l numbers) (rows_is l m rows) few))))
  where
    go : (x : Progress BuildState) → FacesCame c l m (record { mesh = zeroed_rows (rows_of l) m; edges = 0 }) x → Within l (zeroed_rows (rows_of l) m) (tables_of x)
    go x (stand all fit within later) = within
    go x (stop w h n within) = within
