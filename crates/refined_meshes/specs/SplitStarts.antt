-- Document 02's sentence on the start edges of old points as it stands, split by split (§6). Here far e is the far point of edge e, half e
-- its new half, p a point.
--     after_split far half p s e      the start edge of p after the split of e, if it was s before: "a split changes the far point's start
--                                    edge only if that was the edge split, and then to its new half"
--     after_splits far half p es s    the start edge of p after the splits of the edges es, one after the other
--     EachSplitOnce ne es            the edges es are each edge below ne once
--     SplitsSettle                   the claim: whatever the order of the splits, they leave every old point the start edge that is settled
--                                    after the visits
use Rattle.std.specs.Prelude.{◌≡◌, ◌&&◌, cond, List, [], ◌∷◌, ℕ, ◌<◌, eqb, ltb, Float}
use Rattle.tables.specs.Mesh.{Mesh, start, dest}
use Rattle.audited_meshes.specs.Folds.{one_if, occurrences}
use Rattle.audited_meshes.specs.Rows.{HoldsClosed}
use Rattle.refined_meshes.specs.declared.Edition.TheVariants.{First}
use Rattle.refined_meshes.specs.State.{State, with_positions}
use Rattle.refined_meshes.specs.Starts.{new_half, old_start}
use Rattle.refined_meshes.specs.Refines.{Refines}

abbrev pub after_split : (ℕ → ℕ) → (ℕ → ℕ) → ℕ → ℕ → ℕ → ℕ
after_split far half p s e = cond (eqb (far e) p && eqb e s) (half e) s

unfoldable pub after_splits : (ℕ → ℕ) → (ℕ → ℕ) → ℕ → List ℕ → ℕ → ℕ
after_splits far half p [] s = s
after_splits far half p (e ∷ es) s = after_splits far half p es (after_split far half p s e)

abbrev pub EachSplitOnce : ℕ → List ℕ → Type 0
EachSplitOnce ne es = (e : ℕ) → occurrences e es ≡ one_if (ltb e ne)

-- the rows s are those that the visits left
abbrev pub SplitsSettle : Type 0
SplitsSettle =
    (m : Mesh) (np ne nf : ℕ) (h : HoldsClosed m np ne nf) (order : List ℕ) (s : State) (ps : List Float)
    → Refines First m h.mesh h.closed order (with_positions ps s) → (es : List ℕ) → EachSplitOnce ne es → (p : ℕ) → p < np
    → after_splits (dest m) (new_half (with_positions ps s)) p es (start m p) ≡ old_start m (with_positions ps s) p
