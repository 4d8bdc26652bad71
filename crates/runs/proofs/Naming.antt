-- The names that a list of steps makes. Assumes nothing.
--     EachEdition            what holds of each edition of a list
--     along                  induction over the steps of a run
--     Reached s k l n        k steps of closed_meshes lead from the stage s to a mesh with the names n, in the tables l
--     reached                the names of a run are reached, in as many steps as it has accepted ones
--     named                  there are names
--     settled                there is one naming of a run
use Rattle.std.specs.Prelude.{Result, Ok, Err}
use mathlib.Core.Path.{◌≡◌, refl, sym, ◌∙◌, ap, ap₂, subst, path_j}
use mathlib.Core.Bool.{true}
use mathlib.Core.List.{List, [], ◌∷◌}
use mathlib.Core.Logic.{◌⊎◌, inl, inr}
use mathlib.Core.Option.{some}
use Prim.Native.Nat.{ℕ, suc, ◌+◌}
use native.Mathlib.Nat.{add-zero}
use native.Mathlib.Omega.{arith}
use lib.Dec.{T}
use Rattle.tables.specs.Mesh.{Mesh}
use Rattle.tables.specs.declared.Counts.{Counts}
use Rattle.closed_meshes.specs.Renumbering.{Row}
use Rattle.closed_meshes.specs.Names.{midpoint_of, face_point_of, destination_half_of, joining_edge_of, new_face_of}
use Rattle.closed_meshes.specs.Shared.{Stage}
use Rattle.closed_meshes.specs.Runs.{StepsTo, then}
use Rattle.closed_meshes.proofs.Counting.{row-path}
use Rattle.closed_meshes.proofs.Isomorphisms.{onto}
use Rattle.audited_meshes.specs.Rows.{HoldsClosed}
use Rattle.refined_meshes.specs.declared.Edition.{Edition}
use Rattle.steps.specs.declared.StepRefusal.{StepRefusal}
use Rattle.steps.specs.Step.{step_ground, refined_counts}
use Rattle.tables.specs.Counted.{first_rows}
use Rattle.steps.specs.OneStep.{Refinement, Binary64}
use Rattle.runs.specs.Runs.{Lent, Handed, outcome, after, run, one_more_if, accepted, in_edition, editions, lent, NamedMesh, stage, NewNames, SameNames, Renamed, Naming, done, further}
use Rattle.runs.proofs.Names.{point, edge-no, face-no, point-name, edge-name, face-name, step-of-names, named-after, new-names}
use Rattle.runs.proofs.Steps.{answered, refused-number, same-names-of, renamed-same, after-refused, made_of, after-accepted, numbers_after}

module _ {first : Counts} {l : Lent} where
  pub same-names-refl : (n : NamedMesh first l) → SameNames n n
  same-names-refl n =
      record {
        points = λ p p' e. ap n.names.point (row-path p' p e);
        edges = λ e e' q. ap n.names.edge (row-path e' e q);
        faces = λ f f' q. ap n.names.face (row-path f' f q);
      }

  pub same-names-sym : {n n' : NamedMesh first l} → SameNames n n' → SameNames n' n
  same-names-sym a =
      record {
        points = λ p p' e. sym (a.points p' p (sym e));
        edges = λ e e' q. sym (a.edges e' e (sym q));
        faces = λ f f' q. sym (a.faces f' f (sym q));
      }

  pub same-names-trans : {k : Lent} {o : NamedMesh first k} {n n' : NamedMesh first l} → SameNames o n → SameNames n n' → SameNames o n'
  same-names-trans a b =
      record {
        points = λ p p' q. b.points p' p' refl ∙ a.points p p' q;
        edges = λ e e' q. b.edges e' e' refl ∙ a.edges e e' q;
        faces = λ f f' q. b.faces f' f' refl ∙ a.faces f f' q;
      }

  -- The same names before a step make the same names after it.
  new-names-same : {k : ℕ} {l' : Lent} {n o : NamedMesh first l} {n' : NamedMesh first l'} → SameNames o n → NewNames k n n' → NewNames k o n'
  new-names-same {k} a b =
      record {
        old-point = λ p p' q. b.old-point p p' q ∙ a.points p p refl;
        origin-half = λ e e' q. b.origin-half e e' q ∙ a.edges e e refl;
        midpoint = λ e p' q. b.midpoint e p' q ∙ ap (midpoint_of k) (a.edges e e refl);
        destination-half = λ e e' q q'. b.destination-half e e' q q' ∙ ap (destination_half_of k) (a.edges e e refl);
        face-point = λ f p' q. b.face-point f p' q ∙ ap (face_point_of k) (a.faces f f refl);
        joining-edge = λ f e e' q q'. b.joining-edge f e e' q q' ∙ ap₂ (joining_edge_of k) (a.faces f f refl) (a.edges e e refl);
        new-face = λ f p f' q q'. b.new-face f p f' q q' ∙ ap₂ (new_face_of k) (a.faces f f refl) (a.points p p refl);
      }

-- One accepted step more, before or after the others.
pub add-accepted : (g : Result Counts StepRefusal) (k a : ℕ) → one_more_if g k + a ≡ k + one_more_if g a
add-accepted (Ok c) k a = omega arith
add-accepted (Err g) k a = refl

-- What holds of each edition of a list.
unfoldable pub EachEdition : (Edition → Type 0) → List Edition → Type 0
EachEdition Q [] = T true
EachEdition Q (ed ∷ eds) = Q ed × EachEdition Q eds

pub each-edition : (Q : Edition → Type 0) → ((ed : Edition) → Q ed) → (eds : List Edition) → EachEdition Q eds
unfolding EachEdition
each-edition Q h [] = tt
each-edition Q h (ed ∷ eds) = (h ed, each-edition Q h eds)

module _ (Q : Edition → Type 0) (ed : Edition) (eds : List Edition) where
  -- It holds of the edition of an accepted step,
  this-edition : (g : Result Counts StepRefusal) (c : Counts) → g ≡ Ok c → EachEdition Q (in_edition g ed eds) → Q ed
  unfolding EachEdition
  this-edition (Ok c') c e q = q.0
  this-edition (Err g) c e q = absurd (let z : ◌≡◌ {A = ℕ} 0 1 = cc in omega arith)

  -- and of those after it.
  later-editions : (g : Result Counts StepRefusal) → EachEdition Q (in_edition g ed eds) → EachEdition Q eds
  unfolding EachEdition
  later-editions (Ok c) q = q.1
  later-editions (Err g) q = q

-- What holds in the beginning, is kept by the same names and is made by new names holds of the names that a run makes. Q is what is known
-- of the editions of the accepted steps.
module _
    {first : Counts} (Q : Edition → Type 0) (P : ℕ → (l : Lent) → NamedMesh first l → Type 1)
    (same : (k : ℕ) (l : Lent) (n : NamedMesh first l) → P k l n → (n' : NamedMesh first l) → SameNames n n' → P k l n')
    (new :
    (k : ℕ) (l : Lent) (n : NamedMesh first l) → P k l n → (ed : Edition) → Q ed → (order : List ℕ) (m' : Mesh) →
    ((h : HoldsClosed l.tables l.counts.points l.counts.edges l.counts.faces) →
    Refinement ed (first_rows l.counts l.tables) l.counts h.mesh h.closed order m') →
    (n' : NamedMesh first (lent m' (refined_counts l.counts))) → NewNames (suc k) n n' → P (suc k) (lent m' (refined_counts l.counts)) n')
  where
    along-step :
        (k : ℕ) (l : Lent) (n : NamedMesh first l) → P k l n → Binary64 l.counts l.tables → (h : Handed) (n' : NamedMesh first (after l h)) →
        ((c : Counts) → (outcome l h).answer ≡ Ok c → Q h.edition) → Renamed k (outcome l h).answer n n' → P (one_more_if (outcome l h).answer k) (after l h) n'
    along-step k l n r b h n' known a = go (answered (outcome l h).answer)
      where
        go :
            ((c : Counts) × ((outcome l h).answer ≡ Ok c)) ⊎ ((x : ℕ) × (step_ground (outcome l h).answer ≡ some x)) →
            P (one_more_if (outcome l h).answer k) (after l h) n'
        go (inl (c, e)) =
            subst (λ g. P (one_more_if g k) (after l h) n') (sym e)
            (path_j (λ y q. (n' : NamedMesh first y) → NewNames (suc k) n n' → P (suc k) y n')
            (new k l n r h.edition (known c e) h.order (outcome l h).tables (λ H. (made_of l h b H c e).refinement))
            (sym (after-accepted l h b n.holds c e)) n' (subst (λ g. Renamed k g n n') e a))
        go (inr (x, q)) =
            subst (λ j. P j (after l h) n') (sym (refused-number (outcome l h).answer x k q))
            (path_j (λ y q. (n' : NamedMesh first y) → SameNames n n' → P k y n') (same k l n r) (sym (after-refused l h x q)) n'
            (same-names-of n n' (outcome l h).answer x k q a))

    pub along :
        {k : ℕ} {l l' : Lent} {n : NamedMesh first l} {hs : List Handed} {n' : NamedMesh first l'} → Naming k l n hs l' n' →
        Binary64 l.counts l.tables → EachEdition Q (editions l hs) → P k l n → P (k + accepted l hs) l' n'
    unfolding accepted editions
    along {k} {l} {l'} {n} {hs} {n'} done b q r = subst (λ j. P j l n) (sym (add-zero k)) r
    along (further {k} {l} {l''} {n} {h} {hs} {n'} {n''} a d) b q r =
        subst (λ j. P j l'' n'') (add-accepted (outcome l h).answer k (accepted (after l h) hs))
        (along d (numbers_after l h b n.holds) (later-editions Q h.edition (editions (after l h) hs) (outcome l h).answer q)
        (along-step k l n r b h n' (λ c e. this-edition Q h.edition (editions (after l h) hs) (outcome l h).answer c e q) a))

module _ {first : Counts} (s : Stage (Row first.points) (Row first.edges) (Row first.faces)) where
  pub record Reached (k : ℕ) (l : Lent) (n : NamedMesh first l) : Type 1 where
    pub mesh : NamedMesh first l
    pub same : SameNames mesh n
    pub run : StepsTo s k (stage mesh)

  reached-same : (k : ℕ) (l : Lent) (n : NamedMesh first l) → Reached k l n → (n' : NamedMesh first l) → SameNames n n' → Reached k l n'
  reached-same k l n r n' a = record { mesh = r.mesh; same = same-names-trans r.same a; run = r.run }

  -- The names of a run are reached in as many steps as it has accepted ones.
  pub reached :
      {k : ℕ} {l l' : Lent} {n : NamedMesh first l} {hs : List Handed} {n' : NamedMesh first l'} → Naming k l n hs l' n' →
      Binary64 l.counts l.tables → Reached k l n → Reached (k + accepted l hs) l' n'
  reached {k} {l} {l'} {n} {hs} {n'} d b =
      along (λ ed. T true) Reached reached-same
      (λ k l n r ed q order m' made n' a.
      record {
        mesh = n';
        same = same-names-refl n';
        run = then r.run (step-of-names l.tables m' r.mesh (made r.mesh.holds) (suc k) n' (new-names-same r.same a));
      })
      d b (each-edition (λ ed. T true) (λ ed. tt) (editions l hs))

module _ {first : Counts} where
  -- There are names after a step,
  next-names :
      (k : ℕ) (l : Lent) (n : NamedMesh first l) → Binary64 l.counts l.tables → (h : Handed) →
      (n' : NamedMesh first (after l h)) × Renamed k (outcome l h).answer n n'
  next-names k l n b h = go (answered (outcome l h).answer)
    where
      go :
          ((c : Counts) × ((outcome l h).answer ≡ Ok c)) ⊎ ((x : ℕ) × (step_ground (outcome l h).answer ≡ some x)) →
          (n' : NamedMesh first (after l h)) × Renamed k (outcome l h).answer n n'
      go (inl (c, e)) =
          let r = (made_of l h b n.holds c e).refinement in
          let w =
          subst (λ x. (n' : NamedMesh first x) × NewNames (suc k) n n') (sym (after-accepted l h b n.holds c e))
          (named-after l.tables (outcome l h).tables n r (suc k), new-names l.tables (outcome l h).tables n r (suc k)) in
          (w.0, subst (λ g. Renamed k g n w.0) (sym e) w.1)
      go (inr (x, q)) =
          let w = subst (λ y. (n' : NamedMesh first y) × SameNames n n') (sym (after-refused l h x q)) (n, same-names-refl n) in
          (w.0, renamed-same n w.0 (outcome l h).answer x k q w.1)

  -- and after a list of steps.
  pub named :
      (hs : List Handed) (k : ℕ) (l : Lent) (n : NamedMesh first l) → Binary64 l.counts l.tables →
      (n' : NamedMesh first (run l hs)) × Naming k l n hs (run l hs) n'
  unfolding run
  named [] k l n b = (n, done)
  named (h ∷ hs) k l n b =
      let w = next-names k l n b h in
      let v = named hs (one_more_if (outcome l h).answer k) (after l h) w.0 (numbers_after l h b n.holds) in
      (v.0, further w.1 v.1)

-- ---- names are settled

-- Names by the rules from the same names are the same.
module _
    {first c : Counts} (m m' : Mesh) (n : NamedMesh first (lent m c)) {ed : Edition} {order : List ℕ}
    (r : Refinement ed (first_rows c m) c n.holds.mesh n.holds.closed order m') (k : ℕ)
  where
    new-names-settled :
        (o o' : NamedMesh first (lent m' (refined_counts c))) → NewNames k n o → NewNames k n o' → SameNames o o'
    unfolding point edge-no face-no
    new-names-settled o o' a b =
        record {
          points =
              λ p p' q.
              ap o'.names.point (row-path p' p q)
              ∙ onto r.refines.numbering.points (λ p. o'.names.point p ≡ o.names.point p)
              (λ x. point-name m m' n r k o' b x ∙ sym (point-name m m' n r k o a x)) p;
          edges =
              λ e e' q.
              ap o'.names.edge (row-path e' e q)
              ∙ onto r.refines.numbering.edges (λ e. o'.names.edge e ≡ o.names.edge e)
              (λ x. edge-name m m' n r k o' b x ∙ sym (edge-name m m' n r k o a x)) e;
          faces =
              λ f f' q.
              ap o'.names.face (row-path f' f q)
              ∙ onto r.refines.numbering.faces (λ f. o'.names.face f ≡ o.names.face f)
              (λ d. face-name m m' n r k o' b d ∙ sym (face-name m m' n r k o a d)) f;
        }

module _ {first : Counts} where
  settled-step :
      (k : ℕ) (l : Lent) (n o : NamedMesh first l) → SameNames n o → Binary64 l.counts l.tables → (h : Handed)
      (n' o' : NamedMesh first (after l h)) → Renamed k (outcome l h).answer n n' → Renamed k (outcome l h).answer o o' → SameNames n' o'
  settled-step k l n o s b h n' o' x y = go (answered (outcome l h).answer)
    where
      go : ((c : Counts) × ((outcome l h).answer ≡ Ok c)) ⊎ ((g : ℕ) × (step_ground (outcome l h).answer ≡ some g)) → SameNames n' o'
      go (inl (c, e)) =
          path_j (λ z q. (n' o' : NamedMesh first z) → NewNames (suc k) n n' → NewNames (suc k) o o' → SameNames n' o')
          (λ n' o' x y.
          new-names-settled l.tables (outcome l h).tables n (made_of l h b n.holds c e).refinement (suc k) n' o' x (new-names-same s y))
          (sym (after-accepted l h b n.holds c e)) n' o' (subst (λ g. Renamed k g n n') e x) (subst (λ g. Renamed k g o o') e y)
      go (inr (g, q)) =
          path_j (λ z q. (n' o' : NamedMesh first z) → SameNames n n' → SameNames o o' → SameNames n' o')
          (λ n' o' x y. same-names-trans (same-names-sym x) (same-names-trans s y))
          (sym (after-refused l h g q)) n' o' (same-names-of n n' (outcome l h).answer g k q x) (same-names-of o o' (outcome l h).answer g k q y)

  -- Every naming of a run that begins with the same names ends with the names that there are.
  pub settled :
      {k : ℕ} {l l' : Lent} {n : NamedMesh first l} {hs : List Handed} {n' : NamedMesh first l'} → Naming k l n hs l' n' →
      (o : NamedMesh first l) → SameNames o n → (b : Binary64 l.counts l.tables) → SameNames (named hs k l o b).0 n'
  unfolding run named
  settled done o s b = s
  settled (further {k} {l} {l''} {n} {h} {hs} {n'} {n''} x xs) o s b =
      let w = next-names k l o b h in
      settled xs w.0 (settled-step k l o n s b h w.0 n' w.1 x) (numbers_after l h b o.holds)
