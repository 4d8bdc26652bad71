-- What connecting two edges does to their links: a link that is written goes from an edge's side to the edge whose side of the same
-- face begins where it ends, and back. Assumes nothing.
--     first_of s e, second_of s e     where the side s of the edge e begins and ends: the left side runs from origin to destination
--     acw_of s e, cw_of s e           the neighbours of e on its side s
--     Follows s e t o               the side t of o begins where the side s of e ends, and both border one face
--     Wrote i j e o p p'            each link of the pair p' is as in the pair p, or goes to the other edge for such a reason
--     connected-wrote               so it is of two edges and the pair that connecting makes of them
--     connected-links               sides of which one follows the other are linked
use mathlib.Core.Path.{◌≡◌, refl, sym, ◌∙◌, ap, subst}
use mathlib.Core.Bool.{Bool, true, false, cond, false≢true}
use mathlib.Core.Logic.{◌⊎◌, inl, inr, ⊎_elim, ◌≢◌}
use Prim.Native.Nat.{ℕ, ◌<◌}
use native.Mathlib.Omega.{arith}
use native.Mathlib.Decide.{ℕ_discrete}
use lib.Dec.{eqb}
use lib.ListN.{length, length-set}
use lib.Seq.{get_or-set_same, get_or-set_other}
use borrow.Author.Tests.{eqb-true, eqb-false, eq-eqb, ne_eqb}
use Rattle.std.specs.Prelude.{Option, Some, None}
use Rattle.edge_ends.specs.Connection.{index_of, connection_at}
use Rattle.edge_ends.specs.Ends.{acw_on_side, cw_on_side}
use Rattle.t_spline.specs.Ends.{face_from_side}
use Rattle.t_spline.specs.Edge.{none, connection_of, with_connection, same_face}
use Rattle.edge_links.specs.Connect.{links_of, vertex_state, with_links, served, connected}
use Rattle.t_spline.specs.declared.TnurccEdge.{TnurccEdge}
use Rattle.edge_ends.specs.declared.TnurccConnection.{TnurccConnection}
use Rattle.edge_ends.specs.declared.TnurccFaceSide.{TnurccFaceSide}
use Rattle.edge_ends.specs.declared.TnurccFaceSide.TheVariants.{Left, Right}
use Rattle.edge_links.specs.declared.Pair.{Pair}
use Rattle.edge_ends.proofs.Laws.{index_below, connection-at-index}

abbrev pub first_of : TnurccFaceSide → TnurccEdge → ℕ
first_of Left e = e.origin
first_of Right e = e.dest

abbrev pub second_of : TnurccFaceSide → TnurccEdge → ℕ
second_of Left e = e.dest
second_of Right e = e.origin

abbrev pub acw_of : TnurccFaceSide → TnurccEdge → ℕ
acw_of s e = connection_of e (acw_on_side s)

abbrev pub cw_of : TnurccFaceSide → TnurccEdge → ℕ
cw_of s e = connection_of e (cw_on_side s)

pub record Follows (s : TnurccFaceSide) (e : TnurccEdge) (t : TnurccFaceSide) (o : TnurccEdge) : Type 0 where
  pub a-face : face_from_side e s ≢ none
  pub same-face : face_from_side e s ≡ face_from_side o t
  pub meets : second_of s e ≡ first_of t o

-- all but the links
pub record Keeps (e e' : TnurccEdge) : Type 0 where
  pub origin : e'.origin ≡ e.origin
  pub dest : e'.dest ≡ e.dest
  pub left : e'.face_left ≡ e.face_left
  pub right : e'.face_right ≡ e.face_right
  pub interval : e'.knot_interval ≡ e.knot_interval
  pub links : length e'.connections ≡ length e.connections

keeps-trans : {e e' e'' : TnurccEdge} → Keeps e e' → Keeps e' e'' → Keeps e e''
keeps-trans h k =
    record {
      origin = k.origin ∙ h.origin;
      dest = k.dest ∙ h.dest;
      left = k.left ∙ h.left;
      right = k.right ∙ h.right;
      interval = k.interval ∙ h.interval;
      links = k.links ∙ h.links;
    }

pub first-kept : (s : TnurccFaceSide) {e e' : TnurccEdge} → Keeps e e' → first_of s e' ≡ first_of s e
first-kept Left h = h.origin
first-kept Right h = h.dest

pub second-kept : (s : TnurccFaceSide) {e e' : TnurccEdge} → Keeps e e' → second_of s e' ≡ second_of s e
second-kept Left h = h.dest
second-kept Right h = h.origin

pub face-kept : (s : TnurccFaceSide) {e e' : TnurccEdge} → Keeps e e' → face_from_side e' s ≡ face_from_side e s
face-kept Left h = h.left
face-kept Right h = h.right

-- ---- one link set

same-connection : (c d : TnurccConnection) → index_of c ≡ index_of d → c ≡ d
same-connection c d h = sym (connection-at-index c) ∙ ap connection_at h ∙ connection-at-index d

keeps-set : (e : TnurccEdge) (n : ℕ) (c : TnurccConnection) → Keeps e (with_connection e n c)
keeps-set e n c =
    record { origin = refl; dest = refl; left = refl; right = refl; interval = refl; links = length-set e.connections (index_of c) n }

link_set : (e : TnurccEdge) (n : ℕ) (c : TnurccConnection) → length e.connections ≡ 4 → connection_of (with_connection e n c) c ≡ n
link_set e n c four = get_or-set_same e.connections (index_of c) n 0 (subst (λ k. index_of c < k) (sym four) (index_below c))

-- a link afterwards is the one before, or the one that was set
link-after :
    (e : TnurccEdge) (n : ℕ) (c d : TnurccConnection) → length e.connections ≡ 4 →
    (connection_of (with_connection e n c) d ≡ connection_of e d) ⊎ ((connection_of (with_connection e n c) d ≡ n) × (c ≡ d))
link-after e n c d four = go (ℕ_discrete (index_of d) (index_of c))
  where
    go : Dec (index_of d ≡ index_of c) → (connection_of (with_connection e n c) d ≡ connection_of e d) ⊎ ((connection_of (with_connection e n c) d ≡ n) × (c ≡ d))
    go (yes h) =
        let same : c ≡ d = same-connection c d (sym h) in
        inr (subst (λ x. connection_of (with_connection e n c) x ≡ n) same (link_set e n c four), same)
    go (no h) = inl (get_or-set_other e.connections (index_of c) (index_of d) n 0 h)

acw-or-cw : (s t : TnurccFaceSide) → acw_on_side s ≡ cw_on_side t → ⊥
acw-or-cw Left Left h = let z : ◌≡◌ {A = ℕ} 0 1 = cc in omega arith
acw-or-cw Left Right h = let z : ◌≡◌ {A = ℕ} 0 1 = cc in omega arith
acw-or-cw Right Left h = let z : ◌≡◌ {A = ℕ} 0 1 = cc in omega arith
acw-or-cw Right Right h = let z : ◌≡◌ {A = ℕ} 0 1 = cc in omega arith

acw-side : (s t : TnurccFaceSide) → acw_on_side s ≡ acw_on_side t → s ≡ t
acw-side Left Left h = refl
acw-side Left Right h = cc
acw-side Right Left h = cc
acw-side Right Right h = refl

cw-side : (s t : TnurccFaceSide) → cw_on_side s ≡ cw_on_side t → s ≡ t
cw-side Left Left h = refl
cw-side Left Right h = cc
cw-side Right Left h = cc
cw-side Right Right h = refl

-- ---- the links of a pair

module _ (i j : ℕ) (e o : TnurccEdge) where
  pub record Wrote (p p' : Pair) : Type 0 where
    pub kept-first : Keeps p.first p'.first
    pub kept-other : Keeps p.other p'.other
    pub acw-first :
        (s : TnurccFaceSide) → (acw_of s p'.first ≡ acw_of s p.first) ⊎ ((acw_of s p'.first ≡ j) × ((t : TnurccFaceSide) × Follows s e t o))
    pub cw-first :
        (s : TnurccFaceSide) → (cw_of s p'.first ≡ cw_of s p.first) ⊎ ((cw_of s p'.first ≡ j) × ((t : TnurccFaceSide) × Follows t o s e))
    pub acw-other :
        (t : TnurccFaceSide) → (acw_of t p'.other ≡ acw_of t p.other) ⊎ ((acw_of t p'.other ≡ i) × ((s : TnurccFaceSide) × Follows t o s e))
    pub cw-other :
        (t : TnurccFaceSide) → (cw_of t p'.other ≡ cw_of t p.other) ⊎ ((cw_of t p'.other ≡ i) × ((s : TnurccFaceSide) × Follows s e t o))

  -- of two changes of one link, a later one counts
  after_both : {A : Type 0} {x y z n : ℕ} → (y ≡ x) ⊎ ((y ≡ n) × A) → (z ≡ y) ⊎ ((z ≡ n) × A) → (z ≡ x) ⊎ ((z ≡ n) × A)
  after_both (inl h) (inl k) = inl (k ∙ h)
  after_both (inr h) (inl k) = inr (k ∙ h.0, h.1)
  after_both h (inr k) = inr k

  wrote_none : (p : Pair) → Wrote p p
  wrote_none p =
      record {
        kept-first = record { origin = refl; dest = refl; left = refl; right = refl; interval = refl; links = refl };
        kept-other = record { origin = refl; dest = refl; left = refl; right = refl; interval = refl; links = refl };
        acw-first = λ s. inl refl;
        cw-first = λ s. inl refl;
        acw-other = λ t. inl refl;
        cw-other = λ t. inl refl;
      }

  wrote-both : {p p' p'' : Pair} → Wrote p p' → Wrote p' p'' → Wrote p p''
  wrote-both h k =
      record {
        kept-first = keeps-trans h.kept-first k.kept-first;
        kept-other = keeps-trans h.kept-other k.kept-other;
        acw-first = λ s. after_both (h.acw-first s) (k.acw-first s);
        cw-first = λ s. after_both (h.cw-first s) (k.cw-first s);
        acw-other = λ t. after_both (h.acw-other t) (k.acw-other t);
        cw-other = λ t. after_both (h.cw-other t) (k.cw-other t);
      }

  -- The links c and d are the right ones for the sides s of e and t of o.
  pub data RightLinks (s t : TnurccFaceSide) (c d : TnurccConnection) : Type 0 where
    e-follows : c ≡ cw_on_side s → d ≡ acw_on_side t → Follows t o s e → RightLinks s t c d
    o-follows : c ≡ acw_on_side s → d ≡ cw_on_side t → Follows s e t o → RightLinks s t c d

  linked-wrote :
      (s t : TnurccFaceSide) (c d : TnurccConnection) (p : Pair) → length p.first.connections ≡ 4 → length p.other.connections ≡ 4 →
      RightLinks s t c d → Wrote p (with_links i j (Some (c, d)) p)
  linked-wrote s t c d p four four' r =
      record {
        kept-first = keeps-set p.first j c;
        kept-other = keeps-set p.other i d;
        acw-first = λ x. acw1 x r (link-after p.first j c (acw_on_side x) four);
        cw-first = λ x. cw1 x r (link-after p.first j c (cw_on_side x) four);
        acw-other = λ x. acw2 x r (link-after p.other i d (acw_on_side x) four');
        cw-other = λ x. cw2 x r (link-after p.other i d (cw_on_side x) four');
      }
    where
      acw1 : {A B : Type 0} (x : TnurccFaceSide) → RightLinks s t c d → A ⊎ (B × (c ≡ acw_on_side x)) → A ⊎ (B × ((u : TnurccFaceSide) × Follows x e u o))
      acw1 x r (inl h) = inl h
      acw1 x (e-follows a b w) (inr h) = absurd (acw-or-cw x s (sym h.1 ∙ a))
      acw1 x (o-follows a b w) (inr h) = inr (h.0, (t, subst (λ x. Follows x e t o) (acw-side s x (sym a ∙ h.1)) w))

      cw1 : {A B : Type 0} (x : TnurccFaceSide) → RightLinks s t c d → A ⊎ (B × (c ≡ cw_on_side x)) → A ⊎ (B × ((u : TnurccFaceSide) × Follows u o x e))
      cw1 x r (inl h) = inl h
      cw1 x (e-follows a b w) (inr h) = inr (h.0, (t, subst (λ x. Follows t o x e) (cw-side s x (sym a ∙ h.1)) w))
      cw1 x (o-follows a b w) (inr h) = absurd (acw-or-cw s x (sym a ∙ h.1))

      acw2 : {A B : Type 0} (x : TnurccFaceSide) → RightLinks s t c d → A ⊎ (B × (d ≡ acw_on_side x)) → A ⊎ (B × ((u : TnurccFaceSide) × Follows x o u e))
      acw2 x r (inl h) = inl h
      acw2 x (e-follows a b w) (inr h) = inr (h.0, (s, subst (λ x. Follows x o s e) (acw-side t x (sym b ∙ h.1)) w))
      acw2 x (o-follows a b w) (inr h) = absurd (acw-or-cw x t (sym h.1 ∙ b))

      cw2 : {A B : Type 0} (x : TnurccFaceSide) → RightLinks s t c d → A ⊎ (B × (d ≡ cw_on_side x)) → A ⊎ (B × ((u : TnurccFaceSide) × Follows u e x o))
      cw2 x r (inl h) = inl h
      cw2 x (e-follows a b w) (inr h) = absurd (acw-or-cw t x (sym b ∙ h.1))
      cw2 x (o-follows a b w) (inr h) = inr (h.0, (s, subst (λ x. Follows s e x o) (cw-side t x (sym b ∙ h.1)) w))

  -- ---- the table of links is right for every state

  -- the vertex state, with what it says
  data Vertex : ℕ → Type 0 where
    v0 : e.origin ≡ o.dest → Vertex 0
    v1 : e.dest ≡ o.origin → Vertex 1
    v2 : e.origin ≡ o.origin → Vertex 2
    v3 : e.dest ≡ o.dest → Vertex 3
    v4 : Vertex 4

  vertex : Vertex (vertex_state e o)
  vertex = go (eqb e.origin o.dest) refl
    where
      go3 : (b : Bool) → eqb e.dest o.dest ≡ b → Vertex (cond b 3 4)
      go3 true h = v3 (eqb-true _ _ h)
      go3 false h = v4

      go2 : (b : Bool) → eqb e.origin o.origin ≡ b → Vertex (cond b 2 (cond (eqb e.dest o.dest) 3 4))
      go2 true h = v2 (eqb-true _ _ h)
      go2 false h = go3 (eqb e.dest o.dest) refl

      go1 : (b : Bool) → eqb e.dest o.origin ≡ b → Vertex (cond b 1 (cond (eqb e.origin o.origin) 2 (cond (eqb e.dest o.dest) 3 4)))
      go1 true h = v1 (eqb-true _ _ h)
      go1 false h = go2 (eqb e.origin o.origin) refl

      go : (b : Bool) → eqb e.origin o.dest ≡ b → Vertex (cond b 0 (cond (eqb e.dest o.origin) 1 (cond (eqb e.origin o.origin) 2 (cond (eqb e.dest o.dest) 3 4))))
      go true h = v0 (eqb-true _ _ h)
      go false h = go1 (eqb e.dest o.origin) refl

  -- the number of a face state
  abbrev pub state_of : TnurccFaceSide → TnurccFaceSide → ℕ
  state_of Left Left = 0
  state_of Right Right = 1
  state_of Left Right = 2
  state_of Right Left = 3

  -- what a state sets is right: a mismatch sets nothing
  data Sets (s t : TnurccFaceSide) : Option (TnurccConnection × TnurccConnection) → Type 0 where
    sets : {c d : TnurccConnection} → RightLinks s t c d → Sets s t (Some (c, d))
    nothing : Sets s t None

  sets_of : (s t : TnurccFaceSide) (v : ℕ) → face_from_side e s ≢ none → face_from_side e s ≡ face_from_side o t → Vertex v → Sets s t (links_of (state_of s t) v)
  unfolding links_of
  sets_of Left Left v a f (v0 h) = sets (e-follows refl refl (record { a-face = λ z. a (f ∙ z); same-face = sym f; meets = sym h }))
  sets_of Left Left v a f (v1 h) = sets (o-follows refl refl (record { a-face = a; same-face = f; meets = h }))
  sets_of Left Left v a f (v2 h) = nothing
  sets_of Left Left v a f (v3 h) = nothing
  sets_of Left Left v a f v4 = nothing
  sets_of Right Right v a f (v0 h) = sets (o-follows refl refl (record { a-face = a; same-face = f; meets = h }))
  sets_of Right Right v a f (v1 h) = sets (e-follows refl refl (record { a-face = λ z. a (f ∙ z); same-face = sym f; meets = sym h }))
  sets_of Right Right v a f (v2 h) = nothing
  sets_of Right Right v a f (v3 h) = nothing
  sets_of Right Right v a f v4 = nothing
  sets_of Left Right v a f (v0 h) = nothing
  sets_of Left Right v a f (v1 h) = nothing
  sets_of Left Right v a f (v2 h) = sets (e-follows refl refl (record { a-face = λ z. a (f ∙ z); same-face = sym f; meets = sym h }))
  sets_of Left Right v a f (v3 h) = sets (o-follows refl refl (record { a-face = a; same-face = f; meets = h }))
  sets_of Left Right v a f v4 = nothing
  sets_of Right Left v a f (v0 h) = nothing
  sets_of Right Left v a f (v1 h) = nothing
  sets_of Right Left v a f (v2 h) = sets (o-follows refl refl (record { a-face = a; same-face = f; meets = h }))
  sets_of Right Left v a f (v3 h) = sets (e-follows refl refl (record { a-face = λ z. a (f ∙ z); same-face = sym f; meets = sym h }))
  sets_of Right Left v a f v4 = nothing

  -- ---- the four face states in turn

  pub same_face-true : (f g : ℕ) → same_face f g ≡ true → (f ≢ none) × (f ≡ g)
  same_face-true f g h = go (eqb f none) refl h
    where
      go : (b : Bool) → eqb f none ≡ b → cond b false (eqb f g) ≡ true → (f ≢ none) × (f ≡ g)
      go true k h = absurd (false≢true h)
      go false k h = (eqb-false f none k, eqb-true f g h)

  true-same_face : (f g : ℕ) → f ≢ none → f ≡ g → same_face f g ≡ true
  true-same_face f g a h = rw (ne_eqb f none a) (eq-eqb f g h)

  served-wrote :
      (s t : TnurccFaceSide) (p : Pair) → length p.first.connections ≡ 4 → length p.other.connections ≡ 4 →
      Wrote p (served (same_face (face_from_side e s) (face_from_side o t)) (state_of s t) (vertex_state e o) i j p)
  served-wrote s t p four four' = go (same_face (face_from_side e s) (face_from_side o t)) refl
    where
      by : (ls : Option (TnurccConnection × TnurccConnection)) → Sets s t ls → Wrote p (with_links i j ls p)
      by ls (sets {c = c} {d = d} r) = linked-wrote s t c d p four four' r
      by ls nothing = wrote_none p

      go : (b : Bool) → same_face (face_from_side e s) (face_from_side o t) ≡ b → Wrote p (served b (state_of s t) (vertex_state e o) i j p)
      go true h =
          let f = same_face-true (face_from_side e s) (face_from_side o t) h in
          by (links_of (state_of s t) (vertex_state e o)) (sets_of s t (vertex_state e o) f.0 f.1 vertex)
      go false h = wrote_none p

  module _ (four : length e.connections ≡ 4) (four' : length o.connections ≡ 4) where
    abbrev pairs : Pair
    pairs = record { first = e; other = o }

    abbrev step : TnurccFaceSide → TnurccFaceSide → Pair → Pair
    step s t p = served (same_face (face_from_side e s) (face_from_side o t)) (state_of s t) (vertex_state e o) i j p

    step-wrote : (s t : TnurccFaceSide) (p : Pair) → Wrote pairs p → Wrote p (step s t p)
    step-wrote s t p w = served-wrote s t p (w.kept-first.links ∙ four) (w.kept-other.links ∙ four')

    w1 : Wrote pairs (step Left Left pairs)
    w1 = step-wrote Left Left pairs (wrote_none pairs)

    w2 : Wrote pairs (step Left Right (step Left Left pairs))
    w2 = wrote-both w1 (step-wrote Left Right _ w1)

    w3 : Wrote pairs (step Right Left (step Left Right (step Left Left pairs)))
    w3 = wrote-both w2 (step-wrote Right Left _ w2)

    pub connected-wrote : Wrote pairs (connected i e j o)
    connected-wrote = wrote-both w3 (step-wrote Right Right _ w3)

    -- The side s of e and the side t of o are linked in the pair p.
    abbrev pub LinkedIn : TnurccFaceSide → TnurccFaceSide → Pair → Type 0
    LinkedIn s t p = (cw_of s p.first ≡ j) × (acw_of t p.other ≡ i)

    stays : (s t : TnurccFaceSide) {p p' : Pair} → Wrote p p' → LinkedIn s t p → LinkedIn s t p'
    stays s t w h = (⊎_elim (λ k. k ∙ h.0) (λ k. k.0) (w.cw-first s), ⊎_elim (λ k. k ∙ h.1) (λ k. k.0) (w.acw-other t))

    step-links :
        (s t : TnurccFaceSide) (p : Pair) → Wrote pairs p → Follows t o s e →
        links_of (state_of s t) (vertex_state e o) ≡ Some (cw_on_side s, acw_on_side t) → LinkedIn s t (step s t p)
    step-links s t p w f h =
        rw (true-same_face (face_from_side e s) (face_from_side o t) (λ z. f.a-face (f.same-face ∙ z)) (sym f.same-face), h)
        (link_set p.first j (cw_on_side s) (w.kept-first.links ∙ four), link_set p.other i (acw_on_side t) (w.kept-other.links ∙ four'))

    -- Two edges of two ends each that do not join the same two points share one point at most, so the state is the right one.
    module _ (ends : e.origin ≢ e.dest) (ends' : o.origin ≢ o.dest)
        (along : e.origin ≡ o.origin → e.dest ≡ o.dest → ⊥) (against : e.origin ≡ o.dest → e.dest ≡ o.origin → ⊥) where
      links-right : (s t : TnurccFaceSide) → second_of t o ≡ first_of s e → links_of (state_of s t) (vertex_state e o) ≡ Some (cw_on_side s, acw_on_side t)
      unfolding links_of
      links-right Left Left h = rw (eq-eqb e.origin o.dest (sym h))
      links-right Right Right h = rw (ne_eqb e.origin o.dest (λ z. against z (sym h)), eq-eqb e.dest o.origin (sym h))
      links-right Left Right h =
          rw (ne_eqb e.origin o.dest (λ z. ends' (h ∙ z)), ne_eqb e.dest o.origin (λ z. ends (sym h ∙ sym z)), eq-eqb e.origin o.origin (sym h))
      links-right Right Left h =
          rw (
            ne_eqb e.origin o.dest (λ z. ends (z ∙ h)),
            ne_eqb e.dest o.origin (λ z. ends' (sym z ∙ sym h)),
            ne_eqb e.origin o.origin (λ z. along z (sym h)),
            eq-eqb e.dest o.dest (sym h),
          )

      pub connected-links : (s t : TnurccFaceSide) → Follows t o s e → LinkedIn s t (connected i e j o)
      connected-links Left Left f =
          stays Left Left (step-wrote Right Right _ w3) (stays Left Left (step-wrote Right Left _ w2) (stays Left Left (step-wrote Left Right _ w1)
          (step-links Left Left pairs (wrote_none pairs) f (links-right Left Left f.meets))))
      connected-links Left Right f =
          stays Left Right (step-wrote Right Right _ w3) (stays Left Right (step-wrote Right Left _ w2) (step-links Left Right _ w1 f (links-right Left Right f.meets)))
      connected-links Right Left f =
          stays Right Left (step-wrote Right Right _ w3) (step-links Right Left _ w2 f (links-right Right Left f.meets))
      connected-links Right Right f = step-links Right Right _ w3 f (links-right Right Right f.meets)
