-- Full agreement, by induction over both lists: the next steps have the same answer, and what they leave agrees. Assumes nothing.
use Rattle.std.specs.Prelude.{Ok}
use mathlib.Core.Path.{◌≡◌, refl, sym, ◌∙◌, ap, subst, path_j}
use mathlib.Core.List.{List}
use mathlib.Core.Logic.{◌⊎◌, inl, inr}
use mathlib.Core.Option.{some}
use Prim.Native.Nat.{ℕ, suc, ◌≤◌}
use native.Mathlib.Omega.{arith}
use lib.ListN.{length}
use Rattle.tables.specs.Mesh.{Mesh, none}
use Rattle.tables.specs.Counted.{first_rows, over_rows}
use Rattle.tables.specs.declared.Counts.{Counts}
use Rattle.tables.proofs.Laws.{length_over}
use Rattle.audited_meshes.specs.Rows.{HoldsClosed}
use Rattle.audited_meshes.proofs.Holds.{audit-is-closed}
use Rattle.refined_meshes.specs.declared.Edition.{Edition}
use Rattle.refined_meshes.specs.declared.Edition.TheVariants.{Second}
use Rattle.steps.specs.Step.{step_ground, refined_counts, whole, step}
use Rattle.steps.specs.Rows.{Room}
use Rattle.steps.specs.OneStep.{Refinement, Binary64}
use Rattle.steps.proofs.Rows.{same-of-first_rows, room-first_rows, room-of-holds}
use Rattle.steps.proofs.Grounds.{Taken, taken}
use Rattle.steps.proofs.OneStep.{one-step}
use Rattle.runs.specs.Lengths.{SameLengths}
use Rattle.runs.specs.Runs.{Lent, Handed, outcome, after, one_more_if, accepted, lent, NamedMesh, NewNames, SameNames, Renamed, Naming, done, further, NamedRun}
use Rattle.runs.proofs.Lengths.{lengths-sym, lengths-trans}
use Rattle.runs.proofs.Steps.{answered, same-names-of, after-refused, made_of, after-accepted, numbers_after}
use Rattle.runs.proofs.Runs.{same-givens, two_runs}
use Rattle.full_agreement.specs.Agreement.{PairedStep, StepsPaired, no_pair, one_pair, SameAnswers, no_answer, one_answer, FullAgreement}
use Rattle.full_agreement.proofs.Agreement.{Agreement, agreement-rows, agreement-same, agreement-new, by_name}
use Rattle.full_agreement.proofs.SecondStarts.{second-starts}
use Rattle.full_agreement.proofs.Answers.{same_answer}

-- An accepted step leaves the lengths of the tables as they are.
module _
    (ed : Edition) (m : Mesh) (c : Counts) (order : List ℕ) (t : Mesh) (h : HoldsClosed m c.points c.edges c.faces) (b : Binary64 c m)
    (c' : Counts) (e : (step ed m c order t).answer ≡ Ok c')
  where
    lengths-kept : SameLengths m (step ed m c order t).tables
    unfolding over_rows
    lengths-kept =
        let k : Taken ed m c order t c' = taken ed m c order t c' e in
        let x = one-step ed m c order t h b c' e in
        let q : whole k.mesh ≡ whole (first_rows (refined_counts c) (step ed m c order t).tables) = sym k.is_made ∙ x.in_order in
        let same : first_rows (refined_counts c) (step ed m c order t).tables ≡ k.mesh = cc in
        let room : Room (refined_counts c) k.mesh =
        subst (Room (refined_counts c)) same (room-first_rows (refined_counts c) (step ed m c order t).tables (room-of-holds x.refinement.holds)) in
        record {
          positions = sym (ap (λ n. length n.positions) k.tables ∙ length_over _ k.mesh.positions m.positions room.positions k.room.positions);
          points = sym (ap (λ n. length n.points) k.tables ∙ length_over _ k.mesh.points m.points room.points k.room.points);
          edges = sym (ap (λ n. length n.edges) k.tables ∙ length_over _ k.mesh.edges m.edges room.edges k.room.edges);
          intervals = sym (ap (λ n. length n.intervals) k.tables ∙ length_over _ k.mesh.intervals m.intervals room.intervals k.room.intervals);
          faces = sym (ap (λ n. length n.faces) k.tables ∙ length_over _ k.mesh.faces m.faces room.faces k.room.faces);
        }

    few-taken : c.faces ≤ none
    few-taken = omega (arith, (taken ed m c order t c' e).within.points)

-- One step of each.
module _
    {first : Counts} {l l' : Lent} (n : NamedMesh first l) (n' : NamedMesh first l') (b : Binary64 l.counts l.tables)
    (b' : Binary64 l'.counts l'.tables) (a : Agreement n n') (h h' : Handed) (p : PairedStep l l' h h') (k : ℕ)
    (o : NamedMesh first (after l h)) (o' : NamedMesh first (after l' h')) (x : Renamed k (outcome l h).answer n o)
    (x' : Renamed k (outcome l' h').answer n' o')
  where
    -- Both are accepted.
    accepted-agrees : (c : Counts) → (outcome l h).answer ≡ Ok c → (outcome l' h').answer ≡ Ok c → Agreement o o'
    accepted-agrees c e e' =
        let r = (made_of l h b n.holds c e).refinement in
        let r' = (made_of l' h' b' n'.holds c e').refinement in
        let s : Refinement Second (first_rows l.counts l.tables) l.counts n.holds.mesh n.holds.closed h.order (outcome l h).tables =
        subst (λ ed. Refinement ed (first_rows l.counts l.tables) l.counts n.holds.mesh n.holds.closed h.order (outcome l h).tables) p.second-A r in
        let s' : Refinement Second (first_rows l'.counts l'.tables) l'.counts n'.holds.mesh n'.holds.closed h'.order (outcome l' h').tables =
        subst (λ ed. Refinement ed (first_rows l'.counts l'.tables) l'.counts n'.holds.mesh n'.holds.closed h'.order (outcome l' h').tables) p.second-B r' in
        let long = lengths-kept h.edition l.tables l.counts h.order h.scratch n.holds b c e in
        let long' = lengths-kept h'.edition l'.tables l'.counts h'.order h'.scratch n'.holds b' c e' in
        let new : NewNames (suc k) n o = subst (λ g. Renamed k g n o) e x in
        let new' : NewNames (suc k) n' o' = subst (λ g. Renamed k g n' o') e' x' in
        path_j
        (λ y q. (o : NamedMesh first y) → NewNames (suc k) n o → Agreement o o')
        (λ o new.
        path_j
        (λ y q. (o' : NamedMesh first y) → NewNames (suc k) n' o' → Agreement o o')
        (λ o' new'.
        agreement-new l.tables l'.tables (outcome l h).tables (outcome l' h').tables n n' a
        (few-taken h.edition l.tables l.counts h.order h.scratch n.holds b c e)
        (few-taken h'.edition l'.tables l'.counts h'.order h'.scratch n'.holds b' c e') s s'
        (second-starts s.refines) (second-starts s'.refines) (suc k) o o' new new'
        (lengths-trans (lengths-sym long) (lengths-trans a.lengths long')))
        (sym (after-accepted l' h' b' n'.holds c e')) o' new')
        (sym (after-accepted l h b n.holds c e)) o new

    -- Both are refused.
    refused-agrees : (g : ℕ) → step_ground (outcome l h).answer ≡ some g → step_ground (outcome l' h').answer ≡ some g → Agreement o o'
    refused-agrees g q q' =
        path_j
        (λ y q. (o : NamedMesh first y) → SameNames n o → Agreement o o')
        (λ o same.
        path_j (λ y q. (o' : NamedMesh first y) → SameNames n' o' → Agreement o o') (λ o' same'. agreement-same a o o' same same')
        (sym (after-refused l' h' g q')) o' (same-names-of n' o' (outcome l' h').answer g k q' x'))
        (sym (after-refused l h g q)) o (same-names-of n o (outcome l h).answer g k q x)

    step-agrees : (outcome l h).answer ≡ (outcome l' h').answer → Agreement o o'
    step-agrees e = go (answered (outcome l h).answer)
      where
        go : ((c : Counts) × ((outcome l h).answer ≡ Ok c)) ⊎ ((g : ℕ) × (step_ground (outcome l h).answer ≡ some g)) → Agreement o o'
        go (inl (c, q)) = accepted-agrees c q (sym e ∙ q)
        go (inr (g, q)) = refused-agrees g q (ap step_ground (sym e) ∙ q)

-- The steps of two lists.
agree :
    {first : Counts} {k k' : ℕ} {l l' m m' : Lent} {n : NamedMesh first l} {n' : NamedMesh first l'} {hs hs' : List Handed}
    {o : NamedMesh first m} {o' : NamedMesh first m'} → Naming k l n hs m o → Naming k' l' n' hs' m' o' → k' ≡ k → StepsPaired l l' hs hs' →
    Binary64 l.counts l.tables → Binary64 l'.counts l'.tables → Agreement n n' → SameAnswers l l' hs hs' × Agreement o o'
agree done done e no_pair b b' a = (no_answer, a)
agree done (further x' xs') e pairs b b' a = elim pairs [ ]
agree (further x xs) done e pairs b b' a = elim pairs [ ]
agree (further {k} {l} {n} {h} {n' = o} x xs) (further {k = k'} {l = l'} {n = n'} {h = h'} {n' = o'} x' xs') e (one_pair p ps) b b' a =
    let q = same_answer n n' a h h' p in
    let y : Renamed k (outcome l' h').answer n' o' = subst (λ j. Renamed j (outcome l' h').answer n' o') e x' in
    let as_many : one_more_if (outcome l' h').answer k' ≡ one_more_if (outcome l h).answer k = ap (one_more_if (outcome l' h').answer) e ∙ ap (λ g. one_more_if g k) (sym q) in
    let w =
    agree xs xs' as_many ps (numbers_after l h b n.holds) (numbers_after l' h' b' n'.holds) (step-agrees n n' b b' a h h' p k o o' x y q) in
    (one_answer q w.0, w.1)

-- As many steps are accepted.
as-many-accepted : {l l' : Lent} {hs hs' : List Handed} → SameAnswers l l' hs hs' → accepted l hs ≡ accepted l' hs'
unfolding accepted
as-many-accepted no_answer = refl
as-many-accepted (one_answer {l} {l'} {h} {h'} {hs} {hs'} e s) =
    ap (λ g. one_more_if g (accepted (after l h) hs)) e ∙ ap (one_more_if (outcome l' h').answer) (as-many-accepted s)

pub theorem : FullAgreement
theorem c a b h numbers e long hs_a hs_b pairs =
    let both = two_runs c a b ((audit-is-closed _ _ _ _).0 h) numbers e hs_a hs_b in
    let s = same-of-first_rows c a b e in
    let numbers' : Binary64 c b = λ i l. rw (s.intervals i l) (numbers i l) in
    let runs : (n : NamedRun c a hs_a) (n' : NamedRun c b hs_b) → SameAnswers (lent a c) (lent b c) hs_a hs_b × Agreement n.ended n'.ended =
    λ n n'. agree n.naming n'.naming refl pairs numbers numbers' (agreement-rows s n.begun n'.begun (same-givens n n') long) in
    let answers = (runs both.named-A both.named-B).0 in
    record {
      answers = answers;
      as_many = as-many-accepted answers;
      two_runs = both;
      shared = both.shared (as-many-accepted answers);
      all-agrees = λ n n'. by_name (runs n n').1 (both.apart-B n');
    }
