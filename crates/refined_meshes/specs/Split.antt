-- The splitting of edges. "An edge is split at its first visit, both halves getting d times 0.5; the old row keeps the origin half"
-- (document 01).
--     half d                   d times 0.5
--     origin_half p h r         the origin half of the edge r, with the midpoint p, beside its other half h
--     destination_half p e r    the destination half of the edge r, with the midpoint p, beside its other half e
--     split_edge e s            the edge e split: the next edge row is its destination half, the next point row its midpoint
--     split_whole np e s        the edge e split unless it is split already: a whole edge ends in one of the np old points
use Rattle.std.specs.Prelude.{Bool, true, false, [], ◌∷◌, ℕ, ltb, get_or, Float}
use Rattle.std.specs.Float.Ieee.{mul, of_bits}
use Rattle.std.specs.Float.{binary64}
use Rattle.t_spline.specs.declared.TnurccEdge.{TnurccEdge}
use Rattle.refined_meshes.specs.State.{State, edge_of, put_edge, put_point, put_start, take_rows}

abbrev pub half : Float → Float
half d = mul binary64 d (of_bits binary64 0x3fe0000000000000)

-- The halves are linked to each other on both sides, so that the face on the other side finds the one from the other. The
-- connections are LeftCw, LeftAcw, RightCw, RightAcw.
abbrev pub origin_half : ℕ → ℕ → TnurccEdge → TnurccEdge
origin_half p h r =
    record {
      connections = get_or r.connections 0 0 ∷ h ∷ h ∷ get_or r.connections 3 0 ∷ [];
      face_left = r.face_left;
      face_right = r.face_right;
      origin = r.origin;
      dest = p;
      knot_interval = half r.knot_interval;
    }

abbrev pub destination_half : ℕ → ℕ → TnurccEdge → TnurccEdge
destination_half p e r =
    record {
      connections = e ∷ get_or r.connections 1 0 ∷ get_or r.connections 2 0 ∷ e ∷ [];
      face_left = r.face_left;
      face_right = r.face_right;
      origin = p;
      dest = r.dest;
      knot_interval = half r.knot_interval;
    }

-- The midpoint has valence 4, the origin half as its start edge, and mark 0. The start edge of the old destination becomes the
-- destination half.
unfoldable pub split_edge : ℕ → State → State
split_edge e s =
    let r = edge_of s e in
    let p = s.points_taken in
    let h = s.edges_taken in
    take_rows 1 1 0 (put_start r.dest h (put_point p 4 e 0 (put_edge e (origin_half p h r) (put_edge h (destination_half p e r) s))))

abbrev pub split_if : Bool → ℕ → State → State
split_if true e s = split_edge e s
split_if false e s = s

unfoldable pub split_whole : ℕ → ℕ → State → State
split_whole np e s = split_if (ltb (edge_of s e).dest np) e s
