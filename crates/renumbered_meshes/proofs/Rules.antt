-- Everything that the rules read goes along with the row numbers, and every new position is the same. Assumes nothing.
use Rattle.renumbered_meshes.specs.Claims.{RulesFollow}
use Rattle.renumbered_meshes.proofs.Steps.{acw_about-to, cw_about-to, acw_of_face-to, cw_of_face-to, first_point-to}
use Rattle.renumbered_meshes.proofs.Walks.{face_walk-to, point_walk-to, edge_to_point-to, border-size-to, border-edge-to, border-point-to}
use Rattle.renumbered_meshes.proofs.Intervals.{a1-same, a2-same, c1-same, c2-same, three_terms-same}
use Rattle.renumbered_meshes.proofs.FacePoints.{face_point-same}
use Rattle.renumbered_meshes.proofs.EdgePoints.{edge_middle-same, edge_point-same}
use Rattle.renumbered_meshes.proofs.OldPoints.{common_face-to, radial_edge-to, old_point-same}

pub rules-follow : RulesFollow
rules-follow m np ne nf m' np' ne' nf' a few few' r =
    record {
      acw-about = acw_about-to a r;
      cw-about = cw_about-to a r;
      acw-of-face = acw_of_face-to a r;
      cw-of-face = cw_of_face-to a r;
      first-point = first_point-to a r;
      face-walk = face_walk-to a r;
      point-walk = point_walk-to a r;
      edge_to = edge_to_point-to a r;
      radial-edge = λ p i l. radial_edge-to a r few few' p l i;
      border-size = border-size-to a r;
      border-edge = λ f j n l. border-edge-to a r f l j n;
      border-point = λ f j n l. border-point-to a r f l j n;
      a1 = a1-same a r;
      c1 = c1-same a r;
      a2 = a2-same a r;
      c2 = c2-same a r;
      three-terms = three_terms-same a r;
      common-face = common_face-to a r few few';
      face-point = face_point-same a r;
      edge-middle = edge_middle-same a r;
      edge-point = edge_point-same a r;
      old-point = λ ep ep' fp fp' he hf p l. old_point-same a r few few' p l ep ep' fp fp' he hf;
    }
