-- One turn of a loop that stores start edges, and the three loops one after the other. Assumes nothing.
--     start-split, start-kept                  the start edge of an old point
--     centre-left, centre-right                the start edge of a face point
--     starts_none, starts-turn, starts-end     nothing stored, one start edge more, all of them
--     mids-length, centres-length              only the length of the table of points counts
--     all_settled                              old points, midpoints, face points
use mathlib.Core.Path.{◌≡◌, sym, ◌∙◌, ap, ap₂}
use mathlib.Core.Bool.{Bool, true, false, cond}
use mathlib.Core.List.{List, []}
use Prim.Native.Nat.{ℕ, ◌+◌, ◌*◌}
use lib.Dec.{eqb}
use lib.ListN.{length, get_or, set}
use borrow.Author.Tests.{eq-eqb, ne_eqb}
use Rattle.tables.specs.Mesh.{mesh_of, edge_table, dest, corner}
use Rattle.tables.specs.declared.Counts.{Counts}
use Rattle.refined_meshes.specs.declared.Edition.TheVariants.{Second}
use Rattle.refined_meshes.specs.State.{state_of}
use Rattle.refined_meshes.specs.Starts.{new_half, old_start, centre_join, starts_put, settled_starts, points_of_edition}
use Rattle.refined_meshes.proofs.Turns.{turns-none, turns-turn}
use Rattle.settling_starts.specs.Fits.{MidsFit, CentresFit}

-- the start edge of an old point, by whether the point is the far end of its old one
module _ (ps es newedges : List ℕ) (p e far : ℕ) (at : e ≡ get_or ps (p * 3 + 1) 0) (end : far ≡ get_or es (e * 8 + 1) 0) where
  pub start-split : far ≡ p → (r : ℕ) → r ≡ new_half (edge_table newedges) e → r ≡ old_start (mesh_of [] ps es [] []) (edge_table newedges) p
  start-split q r h =
      let here : get_or es (get_or ps (p * 3 + 1) 0 * 8 + 1) 0 ≡ p = ap (λ i. get_or es (i * 8 + 1) 0) (sym at) ∙ sym end ∙ q in
      h ∙ ap (new_half (edge_table newedges)) at
      ∙ sym (ap (λ b. cond b (new_half (edge_table newedges) (get_or ps (p * 3 + 1) 0)) (get_or ps (p * 3 + 1) 0)) (eq-eqb _ p here))

  pub start-kept : ¬ (far ≡ p) → get_or ps (p * 3 + 1) 0 ≡ old_start (mesh_of [] ps es [] []) (edge_table newedges) p
  start-kept q =
      let there : get_or es (get_or ps (p * 3 + 1) 0 * 8 + 1) 0 ≡ far = ap (λ i. get_or es (i * 8 + 1) 0) (sym at) ∙ sym end in
      sym
      (ap (λ b. cond b (new_half (edge_table newedges) (get_or ps (p * 3 + 1) 0)) (get_or ps (p * 3 + 1) 0)) (ne_eqb _ p (λ z. q (sym there ∙ z))))

-- the start edge of a face point, by the side of its face
module _ (es fs newedges : List ℕ) (f e left : ℕ) (at : e ≡ get_or fs (f * 5) 0) (side : left ≡ get_or es (e * 8 + 2) 0) where
  by_side :
      (b : Bool) → eqb left f ≡ b
      → centre_join (mesh_of [] [] es [] fs) (edge_table newedges) f ≡ cond b (get_or newedges (e * 8 + 5) 0) (get_or newedges (e * 8 + 6) 0)
  by_side b q =
      ap (λ i. cond (eqb (get_or es (i * 8 + 2) 0) f) (get_or newedges (i * 8 + 5) 0) (get_or newedges (i * 8 + 6) 0)) (sym at)
      ∙ ap (λ c. cond c (get_or newedges (e * 8 + 5) 0) (get_or newedges (e * 8 + 6) 0)) (ap (λ i. eqb i f) (sym side) ∙ q)

  pub centre-left : left ≡ f → get_or newedges (e * 8 + 5) 0 ≡ centre_join (mesh_of [] [] es [] fs) (edge_table newedges) f
  centre-left q = sym (by_side true (eq-eqb left f q))

  pub centre-right : ¬ (left ≡ f) → get_or newedges (e * 8 + 6) 0 ≡ centre_join (mesh_of [] [] es [] fs) (edge_table newedges) f
  centre-right q = sym (by_side false (ne_eqb left f q))

module _ (row edge : ℕ → ℕ) where
  abbrev put : ℕ → List ℕ → List ℕ
  put i xs = set xs (row i * 3 + 1) (edge i)

  pub starts_none : (ps : List ℕ) → ps ≡ starts_put 0 row edge ps
  unfolding starts_put
  starts_none ps = turns-none put ps

  pub starts-turn :
      (i : ℕ) (xs ps : List ℕ) (p e : ℕ) → xs ≡ starts_put i row edge ps → p ≡ row i → e ≡ edge i
      → set xs (p * 3 + 1) e ≡ starts_put (i + 1) row edge ps
  unfolding starts_put
  starts-turn i xs ps p e h q k = ap₂ (λ a b. set xs (a * 3 + 1) b) q k ∙ turns-turn put i xs ps h

  pub starts-end : (i n : ℕ) (xs ps : List ℕ) → i ≡ n → xs ≡ starts_put i row edge ps → xs ≡ starts_put n row edge ps
  starts-end i n xs ps q h = h ∙ ap (λ (k : ℕ). starts_put k row edge ps) q

pub mids-length : {ne : ℕ} {newedges ps xs : List ℕ} → length xs ≡ length ps → MidsFit ne newedges ps → MidsFit ne newedges xs
mids-length same fit = record { halves = fit.halves; rows = λ e l. rw same (fit.rows e l) }

pub centres-length :
    {es fs : List ℕ} {nf : ℕ} {newedges newfaces ps xs : List ℕ} → length xs ≡ length ps → CentresFit es fs nf newedges newfaces ps
    → CentresFit es fs nf newedges newfaces xs
centres-length same fit = record { centres = fit.centres; new-faces = fit.new-faces; rows = λ f l. rw same (fit.rows f l) }

pub all_settled :
    (ps es fs : List ℕ) (c : Counts) (newedges newfaces newpoints xs ys zs : List ℕ)
    → xs ≡ starts_put c.points (λ p. p) (old_start (mesh_of [] ps es [] []) (edge_table newedges)) newpoints
    → ys ≡ starts_put c.edges (dest (edge_table newedges)) (new_half (edge_table newedges)) xs
    → zs ≡ starts_put c.faces (λ f. corner (mesh_of [] [] [] [] newfaces) f 0) (centre_join (mesh_of [] [] es [] fs) (edge_table newedges)) ys
    → zs ≡ points_of_edition Second (mesh_of [] ps es [] fs) c.points c.edges c.faces (state_of newpoints newedges [] newfaces 0 0 0)
unfolding settled_starts
all_settled ps es fs c newedges newfaces newpoints xs ys zs h k j =
    j
    ∙ ap (starts_put c.faces (λ f. corner (mesh_of [] [] [] [] newfaces) f 0) (centre_join (mesh_of [] [] es [] fs) (edge_table newedges)))
    (k ∙ ap (starts_put c.edges (dest (edge_table newedges)) (new_half (edge_table newedges))) h)
