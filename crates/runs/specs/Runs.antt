-- Demand 3: two runs A and B of refining steps from one accepted mesh, A in numbered order, B in any orders, each step of either edition
-- (document 02, §5). It is a single claim about whole lists of steps, refused steps included.
--     Lent                     tables, and the counts of the mesh in them
--     Handed                   what a step is handed anew: an edition, and an order and scratch tables, of any content and lengths
--     outcome l h              what the step answers and leaves
--     counts_after g c          the counts after a step that answers g: a refused one leaves the counts c
--     after l h                the tables and counts that a step leaves
--     run l hs                 the tables and counts that a list of steps leaves
--     one_more_if g k              k, and one more if the step that answers g is accepted
--     accepted l hs            how many steps of a list are accepted
--     editions l hs            the editions of the steps of a list that are accepted
--     numbered n               the order 0, 1, .., n - 1
--     NumberedOrder l hs       every step of hs that is accepted is handed the numbered order; a refused one may be handed any
--     NamedMesh first l        the closed mesh in the tables, and a name for each of its rows; the first mesh has the counts first
--     stage n                  the same, as closed_meshes has it
--     NewNames k n n'          the names n' after an accepted step, number k among the accepted ones, by the names n before it
--     SameNames n n'           the names n' after a refused step
--     Renamed k g n n'         the one or the other, by the answer g of the step
--     Naming k l n hs l' n'    the names n' of the rows of l' that a list of steps makes of the names n of the rows of l, if k steps
--                              were accepted before
--     StepClaim l h            what is claimed of one step
--     EachStep l hs            it holds of each step of a list
--     lent m c                 the tables m with the mesh of the counts c in them
--     NamedRun c m hs          the names that a run makes, begun with row numbers
--     TwoRuns c a b hs_a hs_b    what is claimed of two runs
--     Demand3                  the claim
use Rattle.std.specs.Prelude.{◌≡◌, true, List, [], ◌∷◌, ◌++◌, ℕ, zero, suc, ◌≤◌, Result, Ok, Err}
use Rattle.std.proofs.Math.Option.{none, some}
use Rattle.tables.specs.Mesh.{Mesh, origin, dest, corner}
use Rattle.tables.specs.Records.{position_at}
use Rattle.tables.specs.declared.Counts.{Counts}
use Rattle.closed_meshes.specs.Mesh.{Place}
use Rattle.closed_meshes.specs.Renumbering.{Row}
use Rattle.closed_meshes.specs.Names.{Names, midpoint_of, face_point_of, destination_half_of, joining_edge_of, new_face_of, given_names}
use Rattle.closed_meshes.specs.Shared.{Stage, Shared, NamesDiffer}
use Rattle.audited_meshes.specs.Audit.{audit}
use Rattle.audited_meshes.specs.Rows.{HoldsClosed, place}
use Rattle.refined_meshes.specs.declared.Edition.{Edition}
use Rattle.steps.specs.declared.StepRefusal.{StepRefusal}
use Rattle.steps.specs.Step.{step_ground, refined_counts, whole, made, StepOutcome, step}
use Rattle.tables.specs.Counted.{first_rows}
use Rattle.steps.specs.OneStep.{Refinement, Binary64}

-- ---- runs

pub record Lent : Type 0 where
  pub tables : Mesh
  pub counts : Counts

pub record Handed : Type 0 where
  pub edition : Edition
  pub order : List ℕ
  pub scratch : Mesh

abbrev pub outcome : Lent → Handed → StepOutcome
outcome l h = step h.edition l.tables l.counts h.order h.scratch

abbrev pub counts_after : Result Counts StepRefusal → Counts → Counts
counts_after (Ok c') c = c'
counts_after (Err g) c = c

abbrev pub after : Lent → Handed → Lent
after l h = record { tables = (outcome l h).tables; counts = counts_after (outcome l h).answer l.counts }

unfoldable pub run : Lent → List Handed → Lent
run l [] = l
run l (h ∷ hs) = run (after l h) hs

abbrev pub one_more_if : Result Counts StepRefusal → ℕ → ℕ
one_more_if (Ok c) k = suc k
one_more_if (Err g) k = k

unfoldable pub accepted : Lent → List Handed → ℕ
accepted l [] = 0
accepted l (h ∷ hs) = one_more_if (outcome l h).answer (accepted (after l h) hs)

abbrev pub in_edition : Result Counts StepRefusal → Edition → List Edition → List Edition
in_edition (Ok c) ed eds = ed ∷ eds
in_edition (Err g) ed eds = eds

unfoldable pub editions : Lent → List Handed → List Edition
editions l [] = []
editions l (h ∷ hs) = in_edition (outcome l h).answer h.edition (editions (after l h) hs)

unfoldable pub numbered : ℕ → List ℕ
numbered zero = []
numbered (suc n) = numbered n ++ (n ∷ [])

pub data NumberedOrder : Lent → List Handed → Type 0 where
  no_step : {l : Lent} → NumberedOrder l []
  one_step :
      {l : Lent} {h : Handed} {hs : List Handed} → ((c : Counts) → (outcome l h).answer ≡ Ok c → h.order ≡ numbered l.counts.faces) →
      NumberedOrder (after l h) hs → NumberedOrder l (h ∷ hs)

-- ---- names

pub record NamedMesh (first : Counts) (l : Lent) : Type 0 where
  pub holds : HoldsClosed l.tables l.counts.points l.counts.edges l.counts.faces
  -- a corner that is the number of a point is that point
  pub corner-is-point :
      (f : Row l.counts.faces) (k : Place) → holds.mesh.corner f k ≡ none → l.counts.points ≤ corner l.tables f.0 (place k)
  pub names :
      Names (Row first.points) (Row first.edges) (Row first.faces) (Row l.counts.points) (Row l.counts.edges)
      (Row l.counts.faces)

module _ {first : Counts} where
  abbrev pub stage : {l : Lent} → NamedMesh first l → Stage (Row first.points) (Row first.edges) (Row first.faces)
  stage {l} n =
      record {
        Point = Row l.counts.points;
        Edge = Row l.counts.edges;
        Face = Row l.counts.faces;
        mesh = n.holds.mesh;
        closed = n.holds.closed;
        names = n.names;
      }

  -- Old points and origin halves keep their names and their rows. The midpoint of the old edge e is the destination of row e, the
  -- face point of the old face f is the corner 0 of row f.
  pub record NewNames (k : ℕ) {l l' : Lent} (n : NamedMesh first l) (n' : NamedMesh first l') : Type 0 where
    pub old-point :
        (p : Row l.counts.points) (p' : Row l'.counts.points) → p'.0 ≡ p.0 → n'.names.point p' ≡ n.names.point p
    pub origin-half :
        (e : Row l.counts.edges) (e' : Row l'.counts.edges) → e'.0 ≡ e.0 → n'.names.edge e' ≡ n.names.edge e
    -- A midpoint and a destination half are named by their old edge.
    pub midpoint :
        (e : Row l.counts.edges) (p' : Row l'.counts.points) → p'.0 ≡ dest l'.tables e.0 →
        n'.names.point p' ≡ midpoint_of k (n.names.edge e)
    pub destination-half :
        (e : Row l.counts.edges) (e' : Row l'.counts.edges) → origin l'.tables e'.0 ≡ dest l'.tables e.0 →
        dest l'.tables e'.0 ≡ dest l.tables e.0 → n'.names.edge e' ≡ destination_half_of k (n.names.edge e)
    -- A face point is named by its face, a joining edge by (face, edge), a new face by (face, old point).
    pub face-point :
        (f : Row l.counts.faces) (p' : Row l'.counts.points) → p'.0 ≡ corner l'.tables f.0 0 →
        n'.names.point p' ≡ face_point_of k (n.names.face f)
    pub joining-edge :
        (f : Row l.counts.faces) (e : Row l.counts.edges) (e' : Row l'.counts.edges) →
        origin l'.tables e'.0 ≡ corner l'.tables f.0 0 → dest l'.tables e'.0 ≡ dest l'.tables e.0 →
        n'.names.edge e' ≡ joining_edge_of k (n.names.face f) (n.names.edge e)
    pub new-face :
        (f : Row l.counts.faces) (p : Row l.counts.points) (f' : Row l'.counts.faces) →
        corner l'.tables f'.0 0 ≡ corner l'.tables f.0 0 → corner l'.tables f'.0 2 ≡ p.0 →
        n'.names.face f' ≡ new_face_of k (n.names.face f) (n.names.point p)

  pub record SameNames {l l' : Lent} (n : NamedMesh first l) (n' : NamedMesh first l') : Type 0 where
    pub points :
        (p : Row l.counts.points) (p' : Row l'.counts.points) → p'.0 ≡ p.0 → n'.names.point p' ≡ n.names.point p
    pub edges :
        (e : Row l.counts.edges) (e' : Row l'.counts.edges) → e'.0 ≡ e.0 → n'.names.edge e' ≡ n.names.edge e
    pub faces :
        (f : Row l.counts.faces) (f' : Row l'.counts.faces) → f'.0 ≡ f.0 → n'.names.face f' ≡ n.names.face f

  abbrev pub Renamed : ℕ → Result Counts StepRefusal → {l l' : Lent} → NamedMesh first l → NamedMesh first l' → Type 0
  Renamed k (Ok c) n n' = NewNames (suc k) n n'
  Renamed k (Err g) n n' = SameNames n n'

  pub data Naming : ℕ → (l : Lent) → NamedMesh first l → List Handed → (l' : Lent) → NamedMesh first l' → Type 0 where
    done : {k : ℕ} {l : Lent} {n : NamedMesh first l} → Naming k l n [] l n
    further :
        {k : ℕ} {l l'' : Lent} {n : NamedMesh first l} {h : Handed} {hs : List Handed} {n' : NamedMesh first (after l h)}
        {n'' : NamedMesh first l''} → Renamed k (outcome l h).answer n n' →
        Naming (one_more_if (outcome l h).answer k) (after l h) n' hs l'' n'' → Naming k l n (h ∷ hs) l'' n''

-- ---- what is claimed

pub record StepClaim (l : Lent) (h : Handed) : Type 0 where
  -- After the step the mesh is closed.
  pub closed : audit (after l h).tables (after l h).counts.points (after l h).counts.edges (after l h).counts.faces ≡ true
  -- An accepted step takes V, E, F to V + E + F, 4 E, 2 E, and what it leaves is its edition's refinement in the order handed in.
  pub counted : (c : Counts) → (outcome l h).answer ≡ Ok c → (after l h).counts ≡ refined_counts l.counts
  pub refined :
      (c : Counts) → (outcome l h).answer ≡ Ok c →
      made h.edition (first_rows l.counts l.tables) l.counts h.order (first_rows c h.scratch)
      ≡ whole (first_rows c (after l h).tables)
  -- That is the refinement on kinds, with its marks, intervals and start edges, and every position is its rule's answer.
  pub on-kinds :
      (c : Counts) → (outcome l h).answer ≡ Ok c →
      (n : HoldsClosed l.tables l.counts.points l.counts.edges l.counts.faces) →
      Refinement h.edition (first_rows l.counts l.tables) l.counts n.mesh n.closed h.order (after l h).tables
  -- A refused step changes nothing.
  pub refused : (g : ℕ) → step_ground (outcome l h).answer ≡ some g → after l h ≡ l

pub data EachStep : Lent → List Handed → Type 0 where
  no_steps : {l : Lent} → EachStep l []
  each_step_of : {l : Lent} {h : Handed} {hs : List Handed} → StepClaim l h → EachStep (after l h) hs → EachStep l (h ∷ hs)

abbrev pub lent : Mesh → Counts → Lent
lent m c = record { tables = m; counts = c }

-- the mesh that a list of steps makes of the mesh with the counts c in the tables m, with document 01's names
pub record NamedRun (c : Counts) (m : Mesh) (hs : List Handed) : Type 0 where
  pub begun : NamedMesh c (lent m c)
  -- In the first mesh a row's name is its number.
  pub given : begun.names ≡ given_names
  pub ended : NamedMesh c (run (lent m c) hs)
  pub naming : Naming 0 (lent m c) begun hs (run (lent m c) hs) ended

-- Two runs, of the steps hs_a from the tables a and of the steps hs_b from the tables b, the mesh of the counts c in both.
pub record TwoRuns (c : Counts) (a b : Mesh) (hs_a hs_b : List Handed) : Type 0 where
  -- After each step the mesh is closed; each accepted step is its edition's refinement in the order handed in, each refused one
  -- changes nothing.
  pub steps-A : EachStep (lent a c) hs_a
  pub steps-B : EachStep (lent b c) hs_b
  -- There are names, and they are settled.
  pub named-A : NamedRun c a hs_a
  pub named-B : NamedRun c b hs_b
  pub settled-A : (n n' : NamedRun c a hs_a) → SameNames n.ended n'.ended
  pub settled-B : (n n' : NamedRun c b hs_b) → SameNames n.ended n'.ended
  -- No two rows of a kind share a name.
  pub apart-A : (n : NamedRun c a hs_a) → NamesDiffer (stage n.ended)
  pub apart-B : (n : NamedRun c b hs_b) → NamesDiffer (stage n.ended)
  -- With as many accepted steps the two meshes are shared.
  pub shared :
      accepted (lent a c) hs_a ≡ accepted (lent b c) hs_b → (n : NamedRun c a hs_a) (n' : NamedRun c b hs_b) →
      Shared (stage n.ended) (stage n'.ended)
  -- With at most one accepted step, which A and B have in the same edition, every position agrees too, bit for bit.
  pub positions :
      editions (lent a c) hs_a ≡ editions (lent b c) hs_b → accepted (lent a c) hs_a ≤ 1 → (n : NamedRun c a hs_a) (n' : NamedRun c b hs_b) →
      (p : Row (run (lent a c) hs_a).counts.points) (p' : Row (run (lent b c) hs_b).counts.points) →
      n.ended.names.point p ≡ n'.ended.names.point p' →
      position_at (run (lent a c) hs_a).tables.positions p.0 ≡ position_at (run (lent b c) hs_b).tables.positions p'.0

-- One accepted mesh, of binary64 numbers, stands in tables of any lengths, those of A and those of B. The accepted steps of A are in
-- numbered order, its refused ones in any; B is handed any orders. Both are handed any scratch tables, and an edition at each step.
abbrev pub Demand3 : Type 0
Demand3 =
    (c : Counts) (a b : Mesh) → audit a c.points c.edges c.faces ≡ true → Binary64 c a → first_rows c a ≡ first_rows c b →
    (hs_a hs_b : List Handed) → NumberedOrder (lent a c) hs_a → TwoRuns c a b hs_a hs_b
