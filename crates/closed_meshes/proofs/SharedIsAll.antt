-- Nothing is left out of `Shared`: it makes an isomorphism of the meshes. Assumes nothing.
use mathlib.Core.Path.{◌≡◌, refl, sym, ◌∙◌, ap}
use mathlib.Core.Option.{Option, none, some, map}
use Rattle.closed_meshes.specs.Renumbering.{Injective, Bijection, Isomorphism}
use Rattle.closed_meshes.specs.Shared.{Stage, SharedEdge, Shared, NamesDiffer}
use Rattle.closed_meshes.specs.Runs.{SharedIsAll}

-- Rows with the same names correspond.
module _
    {A A' N : Type 0} (name : A → N) (name' : A' → N) (differ : Injective name)
    (differ' : Injective name') (there : (x : A) → (y : A') × (name x ≡ name' y))
    (here : (y : A') → (x : A) × (name x ≡ name' y))
  where
    abbrev by_name : Bijection A A'
    by_name =
        record {
          to = λ x. (there x).0;
          from = λ y. (here y).0;
          from-to = λ x. differ _ _ ((here _).1 ∙ sym (there x).1);
          to-from = λ y. differ' _ _ (sym (there _).1 ∙ (here y).1);
        }

    -- Options that read the same as names correspond.
    option-by-name : (o : Option A) (o' : Option A') → map name o ≡ map name' o' → o' ≡ map by_name.to o
    option-by-name none none h = refl
    option-by-name none (some y) h = cc
    option-by-name (some x) none h = cc
    option-by-name (some x) (some y) h = ap some (differ' _ _ (cc (there x).1))

module _ {P E F : Type 0} (s s' : Stage P E F) (n : NamesDiffer s) (n' : NamesDiffer s') (a : Shared s s') where
  -- References that read the same as names correspond.
  to-point : (p : s.Point) (p' : s'.Point) → s.names.point p ≡ s'.names.point p' → p' ≡ (a.point-there p).0
  to-point p p' h = n'.points _ _ (sym h ∙ (a.point-there p).1)

  to-edge : (e : s.Edge) (e' : s'.Edge) → s.names.edge e ≡ s'.names.edge e' → e' ≡ (a.edge-there e).0
  to-edge e e' h = n'.edges _ _ (sym h ∙ (a.edge-there e).1)

  to-face : (f : s.Face) (f' : s'.Face) → s.names.face f ≡ s'.names.face f' → f' ≡ (a.face-there f).0
  to-face f f' h = n'.faces _ _ (sym h ∙ (a.face-there f).1)

  agreeing : (e : s.Edge) → SharedEdge s s' e (a.edge-there e).0
  agreeing e = a.edges e _ (a.edge-there e).1

  isomorphism-of-shared : Isomorphism s.mesh s'.mesh
  isomorphism-of-shared =
      record {
        points = by_name s.names.point s'.names.point n.points n'.points a.point-there a.point-here;
        edges = by_name s.names.edge s'.names.edge n.edges n'.edges a.edge-there a.edge_here;
        faces = by_name s.names.face s'.names.face n.faces n'.faces a.face-there a.face-here;
        valence = λ p. sym (a.valence p _ (a.point-there p).1);
        origin = λ e. to-point _ _ (agreeing e).origin;
        dest = λ e. to-point _ _ (agreeing e).dest;
        left = λ e. to-face _ _ (agreeing e).left;
        right = λ e. to-face _ _ (agreeing e).right;
        left_cw = λ e. to-edge _ _ (agreeing e).left_cw;
        left_acw = λ e. to-edge _ _ (agreeing e).left_acw;
        right_cw = λ e. to-edge _ _ (agreeing e).right_cw;
        right_acw = λ e. to-edge _ _ (agreeing e).right_acw;
        corner =
            λ f k.
            option-by-name s.names.point s'.names.point n.points n'.points a.point-there a.point-here
            (s.mesh.corner f k) (s'.mesh.corner (a.face-there f).0 k) (a.corners f _ (a.face-there f).1 k);
      }

-- Meshes that are shared are one but for the numbers of their rows and their start edges.
pub shared-is-all : SharedIsAll
shared-is-all P E F s s' n n' a = isomorphism-of-shared s s' n n' a
