-- A mesh is isomorphic to itself, and isomorphisms can be turned round and composed. Assumes nothing.
use mathlib.Core.Path.{◌≡◌, refl, sym, ◌∙◌, ap}
use mathlib.Core.Option.{Option, some, none, map}
use Rattle.closed_meshes.specs.Mesh.{MeshOver}
use Rattle.closed_meshes.specs.Renumbering.{Bijection, Isomorphism}
use Rattle.closed_meshes.proofs.Isomorphisms.{inverse}

abbrev pub identity : (A : Type 0) → Bijection A A
identity A = record { to = λ x. x; from = λ x. x; from-to = λ x. refl; to-from = λ x. refl }

abbrev pub composed : {A B C : Type 0} → Bijection A B → Bijection B C → Bijection A C
composed b k =
    record {
      to = λ x. k.to (b.to x);
      from = λ z. b.from (k.from z);
      from-to = λ x. ap b.from (k.from-to (b.to x)) ∙ b.from-to x;
      to-from = λ z. ap k.to (b.to-from (k.from z)) ∙ k.to-from z;
    }

pub map-id : {A : Type 0} (o : Option A) → map (λ x. x) o ≡ o
map-id none = refl
map-id (some x) = refl

pub map-map : {A B C : Type 0} (g : A → B) (h : B → C) (o : Option A) → map h (map g o) ≡ map (λ x. h (g x)) o
map-map g h none = refl
map-map g h (some x) = refl

pub map_back : {A B : Type 0} (b : Bijection A B) (o : Option A) → map b.from (map b.to o) ≡ o
map_back b none = refl
map_back b (some x) = ap some (b.from-to x)

-- A field that corresponds one way corresponds the other way.
pub field_back :
    {A B A' B' : Type 0} (b : Bijection A A') (k : Bijection B B') (g : A → B) (g' : A' → B') →
    ((x : A) → g' (b.to x) ≡ k.to (g x)) → (y : A') → g (b.from y) ≡ k.from (g' y)
field_back b k g g' h y = sym (k.from-to _) ∙ ap k.from (sym (h (b.from y)) ∙ ap g' (b.to-from y))

unfoldable pub isomorphism-refl : {P E F : Type 0} (m : MeshOver P E F) → Isomorphism m m
isomorphism-refl {P} {E} {F} m =
    record {
      points = identity P;
      edges = identity E;
      faces = identity F;
      valence = λ p. refl;
      origin = λ e. refl;
      dest = λ e. refl;
      left = λ e. refl;
      right = λ e. refl;
      left_cw = λ e. refl;
      left_acw = λ e. refl;
      right_cw = λ e. refl;
      right_acw = λ e. refl;
      corner = λ f k. sym (map-id (m.corner f k));
    }

unfoldable pub isomorphism-sym :
    {P E F P' E' F' : Type 0} {m : MeshOver P E F} {m' : MeshOver P' E' F'} → Isomorphism m m' → Isomorphism m' m
isomorphism-sym {m} {m'} i =
    record {
      points = inverse i.points;
      edges = inverse i.edges;
      faces = inverse i.faces;
      valence = λ p. sym (i.valence (i.points.from p)) ∙ ap m'.valence (i.points.to-from p);
      origin = field_back i.edges i.points m.origin m'.origin i.origin;
      dest = field_back i.edges i.points m.dest m'.dest i.dest;
      left = field_back i.edges i.faces m.left m'.left i.left;
      right = field_back i.edges i.faces m.right m'.right i.right;
      left_cw = field_back i.edges i.edges m.left_cw m'.left_cw i.left_cw;
      left_acw = field_back i.edges i.edges m.left_acw m'.left_acw i.left_acw;
      right_cw = field_back i.edges i.edges m.right_cw m'.right_cw i.right_cw;
      right_acw = field_back i.edges i.edges m.right_acw m'.right_acw i.right_acw;
      corner =
          λ f k.
          sym (map_back i.points _)
          ∙ ap (map i.points.from) (sym (i.corner (i.faces.from f) k) ∙ ap (λ x. m'.corner x k) (i.faces.to-from f));
    }

unfoldable pub isomorphism-trans :
    {P E F P' E' F' P'' E'' F'' : Type 0} {m : MeshOver P E F} {m' : MeshOver P' E' F'} {m'' : MeshOver P'' E'' F''} →
    Isomorphism m m' → Isomorphism m' m'' → Isomorphism m m''
isomorphism-trans {m} {m'} {m''} i j =
    record {
      points = composed i.points j.points;
      edges = composed i.edges j.edges;
      faces = composed i.faces j.faces;
      valence = λ p. j.valence _ ∙ i.valence p;
      origin = λ e. j.origin _ ∙ ap j.points.to (i.origin e);
      dest = λ e. j.dest _ ∙ ap j.points.to (i.dest e);
      left = λ e. j.left _ ∙ ap j.faces.to (i.left e);
      right = λ e. j.right _ ∙ ap j.faces.to (i.right e);
      left_cw = λ e. j.left_cw _ ∙ ap j.edges.to (i.left_cw e);
      left_acw = λ e. j.left_acw _ ∙ ap j.edges.to (i.left_acw e);
      right_cw = λ e. j.right_cw _ ∙ ap j.edges.to (i.right_cw e);
      right_acw = λ e. j.right_acw _ ∙ ap j.edges.to (i.right_acw e);
      corner =
          λ f k.
          j.corner _ k ∙ ap (map j.points.to) (i.corner f k) ∙ map-map i.points.to j.points.to (m.corner f k);
    }
