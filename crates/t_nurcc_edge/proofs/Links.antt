-- One word stored in a table that holds a pair of edges in two rows, against the pair with one neighbour set. Assumes nothing.
--     number-below                      the number of a neighbour
--     link-first, link-other            a neighbour of the first edge, of the other, set in the table
--     not-served, mismatched, both-served      one face state: it does not hold, its states mismatch, both edges get each other
--     linkable-served, connected-links         the pair still has its neighbours; all four face states
--     paired-rows                       a table holds the pair of its own rows
use mathlib.Core.Path.{◌≡◌, refl, sym, ◌∙◌, ap}
use mathlib.Core.Bool.{Bool, true, false}
use mathlib.Core.List.{List, [], ◌∷◌}
use mathlib.Core.Logic.{◌≢◌}
use Prim.Native.Nat.{ℕ, ◌+◌, ◌*◌, ◌<◌}
use native.Mathlib.Omega.{arith}
use lib.Ieee.{Float}
use lib.ListN.{length, get_or, set, length-set}
use lib.Seq.{set-get_or}
use Rattle.std.specs.Prelude.{Option, Some, None}
use Rattle.edge_ends.specs.Connection.{index_of}
use Rattle.t_spline.specs.Edge.{with_connection, same_face}
use Rattle.edge_links.specs.Connect.{vertex_state, with_links, links_of, served, connected}
use Rattle.edge_links.specs.declared.Pair.{Pair}
use Rattle.t_spline.specs.declared.TnurccEdge.{TnurccEdge}
use Rattle.edge_ends.specs.declared.TnurccConnection.{TnurccConnection}
use Rattle.edge_ends.specs.declared.TnurccConnection.TheVariants.{LeftCw, LeftAcw, RightCw, RightAcw}
use Rattle.edge_ends.proofs.Laws.{index_below}
use Rattle.tables.specs.Rows.{put_row}
use Rattle.tables.specs.Records.{edge_at, edge_words}
use Rattle.tables.proofs.Laws.{set-put_row, set-put_row-other}
use Rattle.t_nurcc_edge.specs.Connected.{paired, connected_rows}
use Rattle.t_nurcc_edge.specs.Joinable.{Linkable}

abbrev row : TnurccEdge → List ℕ → List ℕ
row e cs = e.origin ∷ e.dest ∷ e.face_left ∷ e.face_right ∷ get_or cs 0 0 ∷ get_or cs 1 0 ∷ get_or cs 2 0 ∷ get_or cs 3 0 ∷ []

-- the words of an edge with a neighbour set
words-set : (e : TnurccEdge) (v : ℕ) (c : TnurccConnection) → length e.connections ≡ 4
    → edge_words (with_connection e v c) ≡ set (edge_words e) (4 + index_of c) v
words-set e v c = go e.connections c
  where
    go : (cs : List ℕ) (c : TnurccConnection) → length cs ≡ 4 → row e (set cs (index_of c) v) ≡ set (row e cs) (4 + index_of c) v
    go [] c h = absurd (omega (arith, h))
    go (x ∷ []) c h = absurd (omega (arith, h))
    go (x ∷ y ∷ []) c h = absurd (omega (arith, h))
    go (x ∷ y ∷ z ∷ []) c h = absurd (omega (arith, h))
    go (x ∷ y ∷ z ∷ w ∷ []) LeftCw h = refl
    go (x ∷ y ∷ z ∷ w ∷ []) LeftAcw h = refl
    go (x ∷ y ∷ z ∷ w ∷ []) RightCw h = refl
    go (x ∷ y ∷ z ∷ w ∷ []) RightAcw h = refl
    go (x ∷ y ∷ z ∷ w ∷ u ∷ us) c h = absurd (omega (arith, h))

-- the number of a neighbour
pub number-below : (n : ℕ) (c : TnurccConnection) → n ≡ index_of c → n < 4
number-below n c e = omega (arith, e, index_below c)

module _ (es : List ℕ) (i j : ℕ) (apart : i ≢ j) where
  pub link-first : (p : Pair) (v : ℕ) (c : TnurccConnection) (n : ℕ) → Linkable p → n ≡ i * 8 + 4 + index_of c
      → set (paired es i j p) n v ≡ paired es i j (record { first = with_connection p.first v c; other = p.other })
  link-first p v c n h e =
      set-put_row-other (edge_words p.other) (put_row es (i * 8) (edge_words p.first)) (j * 8) n v
      (λ s l q. apart (same_row s l (sym e ∙ q)))
      ∙ ap (λ (t : List ℕ). put_row t (j * 8) (edge_words p.other))
      (ap (λ (k : ℕ). set (put_row es (i * 8) (edge_words p.first)) k v) (e ∙ place)
      ∙ set-put_row (edge_words p.first) es (i * 8) (4 + index_of c) v below
      ∙ ap (put_row es (i * 8)) (sym (words-set p.first v c h.first-four)))
    where
      below : 4 + index_of c < 8
      below = omega (arith, index_below c)

      place : i * 8 + 4 + index_of c ≡ i * 8 + (4 + index_of c)
      place = omega arith

      same_row : (s : ℕ) → s < 8 → i * 8 + 4 + index_of c ≡ j * 8 + s → i ≡ j
      same_row s l q = omega (arith, index_below c, q)

  pub link-other : (p : Pair) (v : ℕ) (c : TnurccConnection) (n : ℕ) → Linkable p → n ≡ j * 8 + 4 + index_of c
      → set (paired es i j p) n v ≡ paired es i j (record { first = p.first; other = with_connection p.other v c })
  link-other p v c n h e =
      ap (λ (k : ℕ). set (paired es i j p) k v) (e ∙ place)
      ∙ set-put_row (edge_words p.other) (put_row es (i * 8) (edge_words p.first)) (j * 8) (4 + index_of c) v below
      ∙ ap (put_row (put_row es (i * 8) (edge_words p.first)) (j * 8)) (sym (words-set p.other v c h.other-four))
    where
      below : 4 + index_of c < 8
      below = omega (arith, index_below c)

      place : j * 8 + 4 + index_of c ≡ j * 8 + (4 + index_of c)
      place = omega arith

  -- what the code leaves of one face state, in a table xs that holds the pair p
  module _ (b : Bool) (f v : ℕ) (xs : List ℕ) (p : Pair) (q : xs ≡ paired es i j p) where
    pub not-served : b ≡ false → xs ≡ paired es i j (served b f v i j p)
    not-served e = rw e q

    pub mismatched : b ≡ true → None ≡ links_of f v → xs ≡ paired es i j (served b f v i j p)
    mismatched e m =
        let same : p ≡ served b f v i j p = rw (e, sym m) in
        q ∙ ap (paired es i j) same

    pub both-served : (c d : TnurccConnection) (n k : ℕ) → Linkable p → b ≡ true → Some (c, d) ≡ links_of f v
        → n ≡ i * 8 + 4 + index_of c → k ≡ j * 8 + 4 + index_of d
        → set (set xs n j) k i ≡ paired es i j (served b f v i j p)
    both-served c d n k h e m a o =
        let same : with_links i j (Some (c, d)) p ≡ served b f v i j p = rw (e, sym m) in
        ap (λ (t : List ℕ). set (set t n j) k i) q
        ∙ ap (λ (t : List ℕ). set t k i) (link-first p j c n h a)
        ∙ link-other (record { first = with_connection p.first j c; other = p.other }) i d k
        (record { first-four = length-set p.first.connections (index_of c) j ∙ h.first-four; other-four = h.other-four }) o
        ∙ ap (paired es i j) same

pub linkable-served : (b : Bool) (f v i j : ℕ) (p : Pair) → Linkable p → Linkable (served b f v i j p)
linkable-served false f v i j p h = h
linkable-served true f v i j p h = go (links_of f v)
  where
    go : (ls : Option (TnurccConnection × TnurccConnection)) → Linkable (with_links i j ls p)
    go (Some (c, d)) =
        record {
          first-four = length-set p.first.connections (index_of c) j ∙ h.first-four;
          other-four = length-set p.other.connections (index_of d) i ∙ h.other-four;
        }
    go None = h

row-self : (es : List ℕ) (is : List Float) (i : ℕ) → put_row es (i * 8) (edge_words (edge_at es is i)) ≡ es
row-self es is i =
    rw (
      set-get_or es (i * 8) 0,
      set-get_or es (i * 8 + 1) 0,
      set-get_or es (i * 8 + 2) 0,
      set-get_or es (i * 8 + 3) 0,
      set-get_or es (i * 8 + 4) 0,
      set-get_or es (i * 8 + 5) 0,
      set-get_or es (i * 8 + 6) 0,
      set-get_or es (i * 8 + 7) 0,
    )

pub paired-rows : (es : List ℕ) (is : List Float) (i j : ℕ)
    → es ≡ paired es i j (record { first = edge_at es is i; other = edge_at es is j })
paired-rows es is i j = sym (rw (row-self es is i) (row-self es is j))

-- the four face states in turn: es₁ to es₄ are the tables after each
module _ (es : List ℕ) (is : List Float) (i j : ℕ) (e o : TnurccEdge) (v : ℕ) (loaded-first : e ≡ edge_at es is i)
    (loaded-other : o ≡ edge_at es is j) (state : v ≡ vertex_state e o) where
  abbrev After : Bool → ℕ → List ℕ → List ℕ → Type 0
  After b f xs ys = (zs : List ℕ) (p : Pair) → Linkable p → xs ≡ paired zs i j p → ys ≡ paired zs i j (served b f v i j p)

  pub connected-links : (es₁ es₂ es₃ es₄ : List ℕ) (b₁ b₂ b₃ b₄ : Bool)
      → b₁ ≡ same_face e.face_left o.face_left → b₂ ≡ same_face e.face_left o.face_right
      → b₃ ≡ same_face e.face_right o.face_left → b₄ ≡ same_face e.face_right o.face_right
      → After b₁ 0 es es₁ → After b₂ 2 es₁ es₂ → After b₃ 3 es₂ es₃ → After b₄ 1 es₃ es₄
      → es₄ ≡ connected_rows es is i j
  unfolding connected_rows
  connected-links es₁ es₂ es₃ es₄ b₁ b₂ b₃ b₄ h₁ h₂ h₃ h₄ s₁ s₂ s₃ s₄ =
      let p₀ : Pair = record { first = edge_at es is i; other = edge_at es is j } in
      let l₀ : Linkable p₀ = record { first-four = refl; other-four = refl } in
      let p₁ : Pair = served b₁ 0 v i j p₀ in
      let l₁ : Linkable p₁ = linkable-served b₁ 0 v i j p₀ l₀ in
      let p₂ : Pair = served b₂ 2 v i j p₁ in
      let l₂ : Linkable p₂ = linkable-served b₂ 2 v i j p₁ l₁ in
      let p₃ : Pair = served b₃ 3 v i j p₂ in
      let l₃ : Linkable p₃ = linkable-served b₃ 3 v i j p₂ l₂ in
      let whole : served b₄ 1 v i j p₃ ≡ connected i (edge_at es is i) j (edge_at es is j) =
      rw (h₁, h₂, h₃, h₄, state, loaded-first, loaded-other) in
      s₄ es p₃ l₃ (s₃ es p₂ l₂ (s₂ es p₁ l₁ (s₁ es p₀ l₀ (paired-rows es is i j))))
      ∙ ap (paired es i j) whole
