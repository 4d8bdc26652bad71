-- Full agreement of visiting orders (document 02, §7): two runs of steps of the second edition from one accepted mesh, "equally many
-- steps, any orders naming each face once", given "equal table and scratch lengths at each step". It is a single claim about whole lists
-- of steps, refused steps included, beside `Demand3`.
--     PairedStep l l' h h'         the next step of each run: of the second edition, in an order that names each face once at that
--                                  moment, by scratch tables of the same lengths
--     StepsPaired l l' hs hs'           as many steps in both lists, each so
--     SameAnswers l l' hs hs'      at each step the runs have the same answer: accepted with the same counts, or refused on the same ground
--     SameByName n n'              rows of one name have the same position, mark, interval and start edge, every reference read as a name
--     Agreed c a b hs_a hs_b         what is claimed of two such runs
--     FullAgreement                the claim
-- A step leaves the lengths of the tables as they are (`Agreed` holds of every first part of the lists), so they are asked for once.
use Rattle.std.specs.Prelude.{◌≡◌, true, List, [], ◌∷◌}
use Rattle.tables.specs.Mesh.{Mesh, mark, interval}
use Rattle.tables.specs.Records.{position_at}
use Rattle.tables.specs.Counted.{first_rows}
use Rattle.tables.specs.declared.Counts.{Counts}
use Rattle.closed_meshes.specs.Renumbering.{Row}
use Rattle.closed_meshes.specs.Shared.{Shared}
use Rattle.audited_meshes.specs.Audit.{audit}
use Rattle.refined_meshes.specs.declared.Edition.TheVariants.{Second}
use Rattle.steps.specs.Step.{each_face_once}
use Rattle.steps.specs.OneStep.{Binary64}
use Rattle.runs.specs.Lengths.{SameLengths}
use Rattle.runs.specs.Runs.{Lent, Handed, outcome, after, accepted, lent, NamedMesh, stage, NamedRun, TwoRuns}

pub record PairedStep (l l' : Lent) (h h' : Handed) : Type 0 where
  pub second-A : h.edition ≡ Second
  pub second-B : h'.edition ≡ Second
  pub once-A : each_face_once l.counts.faces h.order ≡ true
  pub once-B : each_face_once l'.counts.faces h'.order ≡ true
  pub scratch : SameLengths h.scratch h'.scratch

pub data StepsPaired : Lent → Lent → List Handed → List Handed → Type 0 where
  no_pair : {l l' : Lent} → StepsPaired l l' [] []
  one_pair :
      {l l' : Lent} {h h' : Handed} {hs hs' : List Handed} → PairedStep l l' h h' → StepsPaired (after l h) (after l' h') hs hs' →
      StepsPaired l l' (h ∷ hs) (h' ∷ hs')

pub data SameAnswers : Lent → Lent → List Handed → List Handed → Type 0 where
  no_answer : {l l' : Lent} → SameAnswers l l' [] []
  one_answer :
      {l l' : Lent} {h h' : Handed} {hs hs' : List Handed} → (outcome l h).answer ≡ (outcome l' h').answer →
      SameAnswers (after l h) (after l' h') hs hs' → SameAnswers l l' (h ∷ hs) (h' ∷ hs')

module _ {first : Counts} {l l' : Lent} where
  pub record SameByName (n : NamedMesh first l) (n' : NamedMesh first l') : Type 0 where
    pub positions :
        (p : Row l.counts.points) (p' : Row l'.counts.points) → n.names.point p ≡ n'.names.point p' →
        position_at l.tables.positions p.0 ≡ position_at l'.tables.positions p'.0
    pub marks :
        (p : Row l.counts.points) (p' : Row l'.counts.points) → n.names.point p ≡ n'.names.point p' →
        mark l.tables p.0 ≡ mark l'.tables p'.0
    pub starts :
        (p : Row l.counts.points) (p' : Row l'.counts.points) → n.names.point p ≡ n'.names.point p' →
        n.names.edge (n.holds.mesh.start p) ≡ n'.names.edge (n'.holds.mesh.start p')
    pub intervals :
        (e : Row l.counts.edges) (e' : Row l'.counts.edges) → n.names.edge e ≡ n'.names.edge e' →
        interval l.tables e.0 ≡ interval l'.tables e'.0
    pub face-starts :
        (f : Row l.counts.faces) (f' : Row l'.counts.faces) → n.names.face f ≡ n'.names.face f' →
        n.names.edge (n.holds.mesh.face_start f) ≡ n'.names.edge (n'.holds.mesh.face_start f')

pub record Agreed (c : Counts) (a b : Mesh) (hs_a hs_b : List Handed) : Type 0 where
  -- One run's step is refused exactly if the other's is, and on the same ground.
  pub answers : SameAnswers (lent a c) (lent b c) hs_a hs_b
  pub as_many : accepted (lent a c) hs_a ≡ accepted (lent b c) hs_b
  -- All that demand 3 says of two runs: closed meshes, refinements, settled names.
  pub two_runs : TwoRuns c a b hs_a hs_b
  -- The meshes are shared under the naming, and positions, intervals, marks and start edges agree as well, bit for bit.
  pub shared : (n : NamedRun c a hs_a) (n' : NamedRun c b hs_b) → Shared (stage n.ended) (stage n'.ended)
  pub all-agrees : (n : NamedRun c a hs_a) (n' : NamedRun c b hs_b) → SameByName n.ended n'.ended

-- One accepted mesh, of binary64 numbers, stands in tables of the same lengths; what stands in their further rows is free.
abbrev pub FullAgreement : Type 0
FullAgreement =
    (c : Counts) (a b : Mesh) → audit a c.points c.edges c.faces ≡ true → Binary64 c a → first_rows c a ≡ first_rows c b →
    SameLengths a b → (hs_a hs_b : List Handed) → StepsPaired (lent a c) (lent b c) hs_a hs_b → Agreed c a b hs_a hs_b
