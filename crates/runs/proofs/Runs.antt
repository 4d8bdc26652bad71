-- Demand 3. The names of each run are reached by steps on kinds, and two runs of as many steps match
-- whatever their numberings. Assumes nothing.
use Rattle.std.specs.Prelude.{Result, Ok, Err}
use mathlib.Core.Path.{◌≡◌, refl, sym, ◌∙◌, ap, subst}
use mathlib.Core.List.{List, [], ◌∷◌}
use Prim.Native.Nat.{ℕ, suc, ◌≤◌, ◌<◌}
use lib.ListN.{length, get_or}
use native.Mathlib.Nat.{zero-add}
use native.Mathlib.Omega.{arith}
use native.Mathlib.Decide.{ℕ_discrete}
use Rattle.tables.specs.Mesh.{Mesh}
use Rattle.tables.specs.Records.{position_at}
use Rattle.tables.specs.declared.Counts.{Counts}
use Rattle.closed_meshes.specs.Renumbering.{Row}
use Rattle.closed_meshes.specs.Names.{given_point, given_names}
use Rattle.closed_meshes.specs.Shared.{Stage, Shared, NamesDiffer}
use Rattle.closed_meshes.specs.Runs.{StepsTo, begin}
use Rattle.closed_meshes.proofs.Counting.{row-path}
use Rattle.closed_meshes.proofs.Groupoid.{isomorphism-trans}
use Rattle.closed_meshes.proofs.Names.{names-differ}
use Rattle.closed_meshes.proofs.Runs.{Matching, matching-run}
use Rattle.closed_meshes.proofs.TwoRuns.{shared-of-matching}
use Rattle.audited_meshes.specs.Rows.{HoldsClosed}
use Rattle.audited_meshes.proofs.Holds.{audited-of-closed, audit-is-closed}
use Rattle.tables.specs.Counted.{first_rows}
use Rattle.refined_meshes.specs.declared.Edition.{Edition}
use Rattle.refined_meshes.specs.declared.Edition.TheVariants.{First}
use Rattle.steps.specs.declared.StepRefusal.{StepRefusal}
use Rattle.steps.specs.OneStep.{Binary64}
use Rattle.steps.proofs.Rows.{SameRows, same-of-first_rows, room-of-first_rows, room-of-holds, holds_same, position-same}
use Rattle.runs.specs.Runs.{Lent, Handed, outcome, after, run, one_more_if, accepted, in_edition, editions, lent, NamedMesh, stage, SameNames, NamedRun, TwoRuns, Demand3}
use Rattle.runs.proofs.Readings.{matching-same, first-reading, first-points-first}
use Rattle.runs.proofs.Steps.{each_step}
use Rattle.runs.proofs.Naming.{same-names-refl, same-names-sym, same-names-trans, EachEdition, Reached, reached, named, settled}
use Rattle.runs.proofs.Positions.{Positions, after_one, positions}

-- Matches compose.
unfoldable pub matching-trans :
    {P E F : Type 0} {s s' s'' : Stage P E F} → Matching s s' → Matching s' s'' → Matching s s''
unfolding isomorphism-trans
matching-trans a b =
    record {
      isomorphism = isomorphism-trans a.isomorphism b.isomorphism;
      point = λ p. b.point _ ∙ a.point p;
      edge = λ e. b.edge _ ∙ a.edge e;
      face = λ f. b.face _ ∙ a.face f;
    }

-- The same tables have the same rows.
pub same-rows-refl : (c : Counts) (m : Mesh) → SameRows c m m
same-rows-refl c m =
    record { positions = λ i h. refl; points = λ i h. refl; edges = λ i h. refl; intervals = λ i h. refl; faces = λ i h. refl }

-- Names that differ differ under the same names.
names-differ-same :
    {first : Counts} {l : Lent} (n n' : NamedMesh first l) → SameNames n n' → NamesDiffer (stage n) → NamesDiffer (stage n')
names-differ-same n n' a d =
    record {
      points = λ p q h. d.points p q (sym (a.points p p refl) ∙ h ∙ a.points q q refl);
      edges = λ e i h. d.edges e i (sym (a.edges e e refl) ∙ h ∙ a.edges i i refl);
      faces = λ f g h. d.faces f g (sym (a.faces f f refl) ∙ h ∙ a.faces g g refl);
    }

-- A run of k accepted steps leads from its first mesh to its last, up to the reading of the same tables.
module _ {c : Counts} {m : Mesh} (numbers : Binary64 c m) {hs : List Handed} (n : NamedRun c m hs) where
  reached-end : Reached (stage n.begun) (accepted (lent m c) hs) (run (lent m c) hs) n.ended
  reached-end =
      subst (λ k. Reached (stage n.begun) k (run (lent m c) hs) n.ended) (zero-add (accepted (lent m c) hs))
      (reached (stage n.begun) n.naming numbers
      (record { mesh = n.begun; same = same-names-refl n.begun; run = begin }))

  end-matches : Matching (stage n.ended) (stage reached-end.mesh)
  end-matches = matching-same (same-rows-refl _ _) n.ended reached-end.mesh (same-names-sym reached-end.same)

  matches-end : Matching (stage reached-end.mesh) (stage n.ended)
  matches-end = matching-same (same-rows-refl _ _) reached-end.mesh n.ended reached-end.same

  -- No two rows of a kind share a name.
  end-differs : NamesDiffer (stage n.ended)
  end-differs =
      names-differ-same reached-end.mesh n.ended reached-end.same
      (names-differ _ _ _ n.begun.holds.mesh n.begun.holds.closed (accepted (lent m c) hs) (stage reached-end.mesh)
      (subst
      (λ x.
      StepsTo
      (record {
        Point = Row c.points;
        Edge = Row c.edges;
        Face = Row c.faces;
        mesh = n.begun.holds.mesh;
        closed = n.begun.holds.closed;
        names = x;
      })
      (accepted (lent m c) hs) (stage reached-end.mesh))
      n.given reached-end.run))

-- In the first mesh a row's name is its number, in both runs.
pub same-givens :
    {c : Counts} {a b : Mesh} {hs_a hs_b : List Handed} (n : NamedRun c a hs_a) (n' : NamedRun c b hs_b) →
    SameNames n.begun n'.begun
same-givens n n' =
    record {
      points = λ p p' e. ap (λ x. x.point p') (n'.given ∙ sym n.given) ∙ ap n.begun.names.point (row-path p' p e);
      edges = λ e e' q. ap (λ x. x.edge e') (n'.given ∙ sym n.given) ∙ ap n.begun.names.edge (row-path e' e q);
      faces = λ f f' q. ap (λ x. x.face f') (n'.given ∙ sym n.given) ∙ ap n.begun.names.face (row-path f' f q);
    }

module _
    {c : Counts} {a b : Mesh} (s : SameRows c a b) (na : Binary64 c a) (nb : Binary64 c b) {hs_a hs_b : List Handed} (n : NamedRun c a hs_a)
    (n' : NamedRun c b hs_b)
  where
    begin-matches : Matching (stage n.begun) (stage n'.begun)
    begin-matches = matching-same s n.begun n'.begun (same-givens n n')

    module _ (k : accepted (lent a c) hs_a ≡ accepted (lent b c) hs_b) where
      runs-shared : Shared (stage n.ended) (stage n'.ended)
      runs-shared =
          shared-of-matching
          (matching-trans (end-matches na n)
          (matching-trans
          (matching-run begin-matches (subst (λ j. StepsTo (stage n.begun) j (stage (reached-end na n).mesh)) k (reached-end na n).run) (reached-end nb n').run)
          (matches-end nb n')))
          (end-differs nb n')

-- There are as many editions as accepted steps.
editions-counted : (l : Lent) (hs : List Handed) → length (editions l hs) ≡ accepted l hs
unfolding editions accepted
editions-counted l [] = refl
editions-counted l (h ∷ hs) = go (outcome l h).answer (editions-counted (after l h) hs)
  where
    go : (g : Result Counts StepRefusal) → length (editions (after l h) hs) ≡ accepted (after l h) hs →
        length (in_edition g h.edition (editions (after l h) hs)) ≡ one_more_if g (accepted (after l h) hs)
    go (Ok c) e = ap suc e
    go (Err g) e = e

-- the edition of the one accepted step
abbrev one_edition : List Edition → Edition
one_edition eds = get_or eds 0 First

only_one : (eds : List Edition) → length eds ≤ 1 → EachEdition (λ ed. ed ≡ one_edition eds) eds
unfolding EachEdition
only_one [] l = tt
only_one (ed ∷ []) l = (refl, tt)
only_one (ed ∷ d ∷ eds) l = absurd (omega arith)

-- The positions of a run with at most one accepted step, by names.
module _
    {c : Counts} {m : Mesh} (numbers : Binary64 c m) {hs : List Handed} (n : NamedRun c m hs) (few : accepted (lent m c) hs ≤ 1)
  where
    abbrev one : Edition
    one = one_edition (editions (lent m c) hs)

    positions-end : Positions one c m n.begun n.given (accepted (lent m c) hs) (run (lent m c) hs) n.ended
    positions-end =
        subst (λ k. Positions one c m n.begun n.given k (run (lent m c) hs) n.ended) (zero-add (accepted (lent m c) hs))
        (positions one c m n.begun n.given n.naming numbers
        (only_one (editions (lent m c) hs) (omega (arith, editions-counted (lent m c) hs)))
        (record { none-accepted = λ z. (refl, same-names-refl n.begun); one-accepted = λ z. absurd (omega arith) }))

    -- With no accepted step a point is the point of its row.
    module _ (z : accepted (lent m c) hs ≡ 0) (p : Row (run (lent m c) hs).counts.points) where
      first-row : Row c.points
      first-row = (p.0, subst (λ x. p.0 < x.counts.points) (sym (positions-end.none-accepted z).0) p.1)

      first-name : n.ended.names.point p ≡ given_point first-row
      unfolding first-row
      first-name = (positions-end.none-accepted z).1.points first-row p refl ∙ ap (λ x. x.point first-row) n.given

      first-position : position_at (run (lent m c) hs).tables.positions p.0 ≡ position_at m.positions first-row.0
      unfolding first-row
      first-position = ap (λ x. position_at x.tables.positions p.0) (sym (positions-end.none-accepted z).0)

module _
    {c : Counts} {a b : Mesh} (e : first_rows c a ≡ first_rows c b) (na : Binary64 c a) (nb : Binary64 c b) {hs_a hs_b : List Handed}
    (n : NamedRun c a hs_a) (n' : NamedRun c b hs_b) (same : editions (lent a c) hs_a ≡ editions (lent b c) hs_b) (few : accepted (lent a c) hs_a ≤ 1)
    (p : Row (run (lent a c) hs_a).counts.points) (p' : Row (run (lent b c) hs_b).counts.points)
    (q : n.ended.names.point p ≡ n'.ended.names.point p')
  where
    -- as many steps are accepted
    k : accepted (lent a c) hs_a ≡ accepted (lent b c) hs_b
    k = sym (editions-counted (lent a c) hs_a) ∙ ap length same ∙ editions-counted (lent b c) hs_b

    few' : accepted (lent b c) hs_b ≤ 1
    few' = subst (λ j. j ≤ 1) k few

    -- no step is accepted
    unmoved :
        accepted (lent a c) hs_a ≡ 0 →
        position_at (run (lent a c) hs_a).tables.positions p.0 ≡ position_at (run (lent b c) hs_b).tables.positions p'.0
    unmoved z =
        let r = first-row na n few z p in
        let r' = first-row nb n' few' (sym k ∙ z) p' in
        let g : given_point r ≡ given_point r' = sym (first-name na n few z p) ∙ q ∙ first-name nb n' few' (sym k ∙ z) p' in
        let i : r ≡ r' = cc in
        first-position na n few z p
        ∙ sym (position-same (same-of-first_rows c a b e) r.0 r.1)
        ∙ ap (λ x. position_at b.positions x.0) i
        ∙ sym (first-position nb n' few' (sym k ∙ z) p')

    -- one step is accepted
    moved :
        accepted (lent a c) hs_a ≡ 1 →
        position_at (run (lent a c) hs_a).tables.positions p.0 ≡ position_at (run (lent b c) hs_b).tables.positions p'.0
    moved z =
        (positions-end na n few).one-accepted z p
        ∙ ap (after_one (one na n few) (first_rows c a) c) q
        ∙ ap (λ x. after_one (one na n few) x c (n'.ended.names.point p')) e
        ∙ ap (λ x. after_one (one_edition x) (first_rows c b) c (n'.ended.names.point p')) same
        ∙ sym ((positions-end nb n' few').one-accepted (sym k ∙ z) p')

    positions-agree : position_at (run (lent a c) hs_a).tables.positions p.0 ≡ position_at (run (lent b c) hs_b).tables.positions p'.0
    positions-agree = go (ℕ_discrete (accepted (lent a c) hs_a) 0)
      where
        go :
            Dec (accepted (lent a c) hs_a ≡ 0) →
            position_at (run (lent a c) hs_a).tables.positions p.0 ≡ position_at (run (lent b c) hs_b).tables.positions p'.0
        go (yes z) = unmoved z
        go (no z) = moved (omega arith)

-- There are names.
named-run : (c : Counts) (m : Mesh) (hs : List Handed) → Binary64 c m → HoldsClosed m c.points c.edges c.faces → NamedRun c m hs
named-run c m hs numbers h =
    let d = audited-of-closed m h.mesh h.stands h.closed h.fit in
    let start : NamedMesh c (lent m c) =
    record { holds = first-reading m _ _ _ d; corner-is-point = first-points-first m _ _ _ d; names = given_names } in
    let w = named hs 0 (lent m c) start numbers in
    record { begun = start; given = refl; ended = w.0; naming = w.1 }

-- All names of a run are the same.
settled-run : (c : Counts) (m : Mesh) (hs : List Handed) → Binary64 c m → (n n' : NamedRun c m hs) → SameNames n.ended n'.ended
settled-run c m hs numbers n n' =
    let s = settled n.naming n.begun (same-names-refl n.begun) numbers in
    let s' = settled n'.naming n.begun (same-givens n n') numbers in
    same-names-trans (same-names-sym s) s'

-- Two runs in any orders.
pub two_runs :
    (c : Counts) (a b : Mesh) → HoldsClosed a c.points c.edges c.faces → Binary64 c a → first_rows c a ≡ first_rows c b →
    (hs_a hs_b : List Handed) → TwoRuns c a b hs_a hs_b
two_runs c a b h na e hs_a hs_b =
    let s = same-of-first_rows c a b e in
    let h' = holds_same s (room-of-first_rows c a b e (room-of-holds h)) h in
    let nb : Binary64 c b = λ i l. rw (s.intervals i l) (na i l) in
    record {
      steps-A = each_step hs_a (lent a c) na h;
      steps-B = each_step hs_b (lent b c) nb h';
      named-A = named-run c a hs_a na h;
      named-B = named-run c b hs_b nb h';
      settled-A = settled-run c a hs_a na;
      settled-B = settled-run c b hs_b nb;
      apart-A = λ n. end-differs na n;
      apart-B = λ n. end-differs nb n;
      shared = λ k n n'. runs-shared s na nb n n' k;
      positions = λ same few n n' p p' q. positions-agree e na nb n n' same few p p' q;
    }

pub theorem : Demand3
theorem c a b h numbers e hs_a hs_b order = two_runs c a b ((audit-is-closed _ _ _ _).0 h) numbers e hs_a hs_b
