-- What holds of the tables while building, of the places at which edges were made: each edge has the interval of such a place, no place
-- entered before joined its points, and edges are numbered in the order of these places. Assumes nothing.
--     Maker l D r i           place i of the left face made the edge r, among the places D
--     Made l D m ne           so it is of all edges, in order; a point's start edge is the highest-numbered that touches it
--     made-on                 still, where edges keep their ends, left faces and intervals
--     made-new                and with one edge more, made at a place behind all others
use mathlib.Core.Path.{◌≡◌, sym, ◌∙◌, subst}
use mathlib.Core.Bool.{cond}
use mathlib.Core.Logic.{◌⊎◌, inl, inr}
use Prim.Native.Nat.{ℕ, suc, ◌<◌, ◌≤◌}
use native.Mathlib.Omega.{arith}
use lib.Dec.{eqb}
use lib.Ieee.{Float}
use borrow.Author.Tests.{eq-eqb, ne_eqb}
use Rattle.audited_meshes.specs.Walks.{Touches}
use Rattle.t_spline.specs.declared.TnurccEdge.{TnurccEdge}
use Rattle.tables.specs.Mesh.{Mesh, start}
use Rattle.audited_meshes.proofs.Folds.{below_suc}
use Rattle.built_meshes.specs.Lists.{Lists, points_of, size}
use Rattle.built_meshes.specs.Places.{point_of, next_of, beside_of, Earlier}
use Rattle.built_meshes.specs.Perimeters.{interval_place}
use Rattle.built_meshes.proofs.Rows.{row}

-- place j of face g joins the points p and q
abbrev pub Meets : Lists → ℕ → ℕ → ℕ → ℕ → Type 0
Meets l g j p q = ((point_of l g j ≡ p) × (next_of l g j ≡ q)) ⊎ ((point_of l g j ≡ q) × (next_of l g j ≡ p))

-- the interval of place i of face f
abbrev pub interval_of : Lists → ℕ → ℕ → Float
interval_of l f i = beside_of l f (interval_place l.version (size l f) i)

pub record Maker (l : Lists) (D : ℕ → ℕ → Type 0) (r : TnurccEdge) (i : ℕ) : Type 0 where
  pub done : D r.face_left i
  pub begins : point_of l r.face_left i ≡ r.origin
  pub ends : next_of l r.face_left i ≡ r.dest
  pub interval-is : r.knot_interval ≡ interval_of l r.face_left i
  pub none-earlier : (g j : ℕ) → D g j → Earlier g j r.face_left i → ¬ Meets l g j r.origin r.dest

pub record Made (l : Lists) (D : ℕ → ℕ → Type 0) (m : Mesh) (ne : ℕ) : Type 0 where
  pub place : ℕ → ℕ
  pub maker : (e : ℕ) → e < ne → Maker l D (row m e) (place e)
  pub in_order : (e o : ℕ) → e < o → o < ne → Earlier (row m e).face_left (place e) (row m o).face_left (place o)
  pub highest : (p e : ℕ) → p < points_of l → e < ne → Touches m p e → e ≤ start m p

-- all but the links and the right face
pub record Alike (r r' : TnurccEdge) : Type 0 where
  pub origin : r'.origin ≡ r.origin
  pub dest : r'.dest ≡ r.dest
  pub left : r'.face_left ≡ r.face_left
  pub interval : r'.knot_interval ≡ r.knot_interval

maker-alike : (l : Lists) (D : ℕ → ℕ → Type 0) {r r' : TnurccEdge} (i : ℕ) → Alike r r' → Maker l D r i → Maker l D r' i
maker-alike l D {r} {r'} i a k =
    record {
      done = rw a.left k.done;
      begins = rw (a.left, a.origin) k.begins;
      ends = rw (a.left, a.dest) k.ends;
      interval-is = rw (a.left, a.interval) k.interval-is;
      none-earlier = λ g j d h z. k.none-earlier g j d (rw a.left at h) (rw (a.origin, a.dest) at z);
    }

-- a place is not before a place that is before it
pub earlier-not : (f i g j : ℕ) → Earlier f i g j → Earlier g j f i → ⊥
earlier-not f i g j (inl h) (inl k) = omega arith
earlier-not f i g j (inl h) (inr k) = omega (arith, k.0)
earlier-not f i g j (inr h) (inl k) = omega (arith, h.0)
earlier-not f i g j (inr h) (inr k) = omega (arith, h.1, k.1)

pub earlier-differs : (f i g j : ℕ) → Earlier f i g j → ¬ ((f ≡ g) × (i ≡ j))
earlier-differs f i g j (inl h) z = omega (arith, z.0)
earlier-differs f i g j (inr h) z = omega (arith, h.1, z.1)

module _ (l : Lists) (D D' : ℕ → ℕ → Type 0) (to : (f i : ℕ) → D f i → D' f i)
    (from : (g j f i : ℕ) → D' g j → D f i → Earlier g j f i → D g j) (m m' : Mesh) (ne : ℕ) (v : Made l D m ne)
    (alike : (e : ℕ) → e < ne → Alike (row m e) (row m' e)) where
  maker-on : (e : ℕ) → e < ne → Maker l D' (row m' e) (v.place e)
  maker-on e b =
      let k = maker-alike l D (v.place e) (alike e b) (v.maker e b) in
      record {
        done = to _ _ k.done;
        begins = k.begins;
        ends = k.ends;
        interval-is = k.interval-is;
        none-earlier = λ g j d h. k.none-earlier g j (from g j _ _ d k.done h) h;
      }

  order-on : (e o : ℕ) → e < o → o < ne → Earlier (row m' e).face_left (v.place e) (row m' o).face_left (v.place o)
  order-on e o h b = rw ((alike e (omega arith)).left, (alike o b).left) (v.in_order e o h b)

  touches-on : (p e : ℕ) → e < ne → Touches m' p e → Touches m p e
  touches-on p e b (inl h) = inl (sym (alike e b).origin ∙ h)
  touches-on p e b (inr h) = inr (sym (alike e b).dest ∙ h)

  pub made-on : ((p : ℕ) → start m' p ≡ start m p) → Made l D' m' ne
  made-on same =
      record {
        place = v.place;
        maker = maker-on;
        in_order = order-on;
        highest = λ p e pb b h. rw (same p) (v.highest p e pb b (touches-on p e b h));
      }

  module _ (i : ℕ) (new : Maker l D' (row m' ne) i) (past : (f j : ℕ) → D f j → Earlier f j (row m' ne).face_left i)
      (high : (p e : ℕ) → p < points_of l → e < suc ne → Touches m' p e → e ≤ start m' p) where
    place' : ℕ → ℕ
    place' x = cond (eqb x ne) i (v.place x)

    place-old : (x : ℕ) → x < ne → place' x ≡ v.place x
    unfolding place'
    place-old x b = rw (ne_eqb x ne (λ z. omega arith))

    place-new : (x : ℕ) → x ≡ ne → place' x ≡ i
    unfolding place'
    place-new x h = rw (eq-eqb x ne h)

    pub made-new : Made l D' m' (suc ne)
    made-new =
        record {
          place = place';
          maker = λ x b.
              below_suc x ne b (λ lt. subst (λ k. Maker l D' (row m' x) k) (sym (place-old x lt)) (maker-on x lt))
              (λ same.
              subst (λ k. Maker l D' (row m' x) k) (sym (place-new x same)) (subst (λ x. Maker l D' (row m' x) i) (sym same) new));
          in_order = λ e o h b.
              below_suc o ne b (λ lt. rw (place-old e (omega arith), place-old o lt) (order-on e o h lt))
              (λ same.
              rw (place-old e (omega arith), place-new o same, same) (past (row m' e).face_left (v.place e) (done-old e (omega arith))));
          highest = high;
        }
      where
        done-old : (e : ℕ) → e < ne → D (row m' e).face_left (v.place e)
        done-old e b = rw (alike e b).left (v.maker e b).done
