-- Faces of a text turned round (document 02, §8): the sides in opposite order, each side backwards, each interval staying on its pair of
-- points.
--     backward_from a ps qs    the side that goes on from the point a through ps, run back to where qs goes on
--     backward d              the side `[a [p1 i1] .. [pm im]]` run backwards: `[pm [p(m-1) im] .. [p1 i2] [a i1]]`
--     turned_onto ds es        the sides ds run backwards, the last one first, before the sides es
--     turned_face ds           the face turned round
--     turned_if t ds           the face turned round, if it is to be
--     turned_faces c fs        the faces of the choice c turned
--     turned_text c t          the text with the faces of the choice c turned
use Rattle.std.specs.Prelude.{Bool, true, false, List, [], ◌∷◌, ℕ, suc}
use Rattle.mesh_lines.specs.Grammar.{Listed, Side}
use Rattle.mesh_text.specs.Text.{TextMesh}
use Rattle.mended_lists.specs.Reversal.{Choice}

-- the interval on the way from a to p is beside a when the way is run back
unfoldable pub backward_from : ℕ → List Listed → List Listed → Side
backward_from a [] qs = record { first = a; listed = qs }
backward_from a (p ∷ ps) qs = backward_from p.point ps (record { point = a; interval = p.interval } ∷ qs)

abbrev pub backward : Side → Side
backward d = backward_from d.first d.listed []

unfoldable pub turned_onto : List Side → List Side → List Side
unfolding backward_from
turned_onto [] es = es
turned_onto (d ∷ ds) es = turned_onto ds (backward d ∷ es)

abbrev pub turned_face : List Side → List Side
turned_face ds = turned_onto ds []

abbrev pub turned_if : Bool → List Side → List Side
turned_if true ds = turned_face ds
turned_if false ds = ds

unfoldable pub turned_faces : Choice → List (List Side) → List (List Side)
unfolding turned_onto
turned_faces c [] = []
turned_faces c (f ∷ fs) = turned_if (c 0) f ∷ turned_faces (λ k. c (suc k)) fs

abbrev pub turned_text : Choice → TextMesh → TextMesh
turned_text c t = record { version = t.version; points = t.points; faces = turned_faces c t.faces }
