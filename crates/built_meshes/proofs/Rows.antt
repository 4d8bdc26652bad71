-- What stands in the rows after each of the steps of building. Assumes nothing.
--     row m e                 the edge e of the tables
--     row-new_edge ..          after a new edge, after a face was filled in, after two edges were connected, after a face's row
use mathlib.Core.Path.{◌≡◌, refl, sym, ◌∙◌, ap}
use mathlib.Core.Logic.{◌≢◌}
use mathlib.Core.List.{List, [], ◌∷◌}
use Prim.Native.Nat.{ℕ, zero, suc, ◌+◌, ◌*◌, ◌<◌, ◌≤◌}
use native.Mathlib.Nat.{add-zero}
use native.Mathlib.Omega.{arith}
use lib.ListN.{length, get_or, set, length-set}
use lib.Seq.{get_or-set_same, get_or-set_other}
use lib.Ieee.{Float, nan}
use Rattle.t_spline.specs.declared.TnurccEdge.{TnurccEdge}
use Rattle.edge_links.specs.declared.Pair.{Pair}
use Rattle.tables.specs.Mesh.{Mesh, none, valence, start, face_start, corner}
use Rattle.tables.specs.Rows.{put_row}
use Rattle.tables.specs.Records.{edge_at, edge_words, face_words}
use Rattle.tables.proofs.Laws.{length-put_row, get_or-put_row, get_or-put_row-other}
use Rattle.t_nurcc_edge.specs.Connected.{pair_of, connected_rows}
use Rattle.built_meshes.specs.Edges.{lone_edge, touched, new_edge, with_right_face, joined}
use Rattle.built_meshes.specs.Perimeters.{face_of, with_face}

abbrev pub row : Mesh → ℕ → TnurccEdge
row m e = edge_at m.edges m.intervals e

-- the edge that eight words and an interval make
abbrev pub of_words : (ℕ → ℕ) → Float → TnurccEdge
of_words w v =
    record {
      connections = w 4 ∷ w 5 ∷ w 6 ∷ w 7 ∷ [];
      face_left = w 2;
      face_right = w 3;
      origin = w 0;
      dest = w 1;
      knot_interval = v;
    }

pub of_words-cong : (w w' : ℕ → ℕ) (v v' : Float) → ((j : ℕ) → j < 8 → w' j ≡ w j) → v' ≡ v → of_words w' v' ≡ of_words w v
of_words-cong w w' v v' h k =
    rw (h 0 (omega arith), h 1 (omega arith), h 2 (omega arith), h 3 (omega arith), h 4 (omega arith), h 5 (omega arith), h 6 (omega arith), h 7 (omega arith), k)

pub edge_at-words : (es : List ℕ) (is : List Float) (e : ℕ) → edge_at es is e ≡ of_words (λ j. get_or es (e * 8 + j) 0) (get_or is e nan)
edge_at-words es is e = rw (add-zero (e * 8))

-- the same words, the same edge
row-cong :
    (es es' : List ℕ) (is is' : List Float) (e : ℕ) → ((j : ℕ) → j < 8 → get_or es' (e * 8 + j) 0 ≡ get_or es (e * 8 + j) 0) →
    get_or is' e nan ≡ get_or is e nan → edge_at es' is' e ≡ edge_at es is e
row-cong es es' is is' e h k =
    edge_at-words es' is' e ∙ of_words-cong (λ j. get_or es (e * 8 + j) 0) (λ j. get_or es' (e * 8 + j) 0) (get_or is e nan) (get_or is' e nan) h k
    ∙ sym (edge_at-words es is e)

-- a list of four is its four elements
four-elements : (xs : List ℕ) → length xs ≡ 4 → (get_or xs 0 0 ∷ get_or xs 1 0 ∷ get_or xs 2 0 ∷ get_or xs 3 0 ∷ []) ≡ xs
four-elements [] h = absurd (omega arith)
four-elements (a ∷ []) h = absurd (omega arith)
four-elements (a ∷ b ∷ []) h = absurd (omega arith)
four-elements (a ∷ b ∷ c ∷ []) h = absurd (omega arith)
four-elements (a ∷ b ∷ c ∷ d ∷ []) h = refl
four-elements (a ∷ b ∷ c ∷ d ∷ e ∷ xs) h = absurd (omega arith)

-- an edge put into its row stands there
row_put :
    (es : List ℕ) (is : List Float) (e : ℕ) (o : TnurccEdge) → length o.connections ≡ 4 → e * 8 + 8 ≤ length es → get_or is e nan ≡ o.knot_interval →
    edge_at (put_row es (e * 8) (edge_words o)) is e ≡ o
row_put es is e o four fits v =
    edge_at-words (put_row es (e * 8) (edge_words o)) is e
    ∙ of_words-cong (λ j. get_or (edge_words o) j 0) (λ j. get_or (put_row es (e * 8) (edge_words o)) (e * 8 + j) 0) o.knot_interval (get_or is e nan)
    (λ j l. get_or-put_row (edge_words o) es (e * 8) j 0 l fits) v
    ∙ rw (four-elements o.connections four)

row-put-other :
    (es : List ℕ) (is : List Float) (e x : ℕ) (o : TnurccEdge) → x ≢ e → edge_at (put_row es (e * 8) (edge_words o)) is x ≡ edge_at es is x
row-put-other es is e x o h =
    row-cong es (put_row es (e * 8) (edge_words o)) is is x (λ j l. get_or-put_row-other (edge_words o) es 8 e x j 0 refl h l) refl

-- ---- a new edge

module _ (m : Mesh) (k f p q : ℕ) (v : Float) where
  pub row-new_edge : k * 8 + 8 ≤ length m.edges → k < length m.intervals → row (new_edge m k f p q v) k ≡ lone_edge k f p q v
  unfolding new_edge
  row-new_edge fits l =
      row_put m.edges (set m.intervals k v) k (lone_edge k f p q v) refl fits (get_or-set_same m.intervals k v nan l)

  pub row-new_edge-other : (e : ℕ) → e ≢ k → row (new_edge m k f p q v) e ≡ row m e
  unfolding new_edge
  row-new_edge-other e h =
      row-put-other m.edges (set m.intervals k v) k e (lone_edge k f p q v) h
      ∙ row-cong m.edges m.edges m.intervals (set m.intervals k v) e (λ j l. refl) (get_or-set_other m.intervals k e v nan h)

-- the words of a point after it was touched, and of the others
module _ (ws : List ℕ) (p e : ℕ) where
  valence-touched : p * 3 + 3 ≤ length ws → get_or (touched ws p e) (p * 3) 0 ≡ suc (get_or ws (p * 3) 0)
  valence-touched fits =
      get_or-set_other (set ws (p * 3) (get_or ws (p * 3) 0 + 1)) (p * 3 + 1) (p * 3) e 0 (λ h. omega arith)
      ∙ get_or-set_same ws (p * 3) (get_or ws (p * 3) 0 + 1) 0 (omega arith) ∙ omega arith

  start-touched : p * 3 + 3 ≤ length ws → get_or (touched ws p e) (p * 3 + 1) 0 ≡ e
  start-touched fits =
      get_or-set_same (set ws (p * 3) (get_or ws (p * 3) 0 + 1)) (p * 3 + 1) e 0 (rw length-set (omega arith))

  valence-touched-other : (x : ℕ) → x ≢ p → get_or (touched ws p e) (x * 3) 0 ≡ get_or ws (x * 3) 0
  valence-touched-other x h =
      get_or-set_other (set ws (p * 3) (get_or ws (p * 3) 0 + 1)) (p * 3 + 1) (x * 3) e 0 (λ z. omega arith)
      ∙ get_or-set_other ws (p * 3) (x * 3) (get_or ws (p * 3) 0 + 1) 0 (λ z. h (omega arith))

  start-touched-other : (x : ℕ) → x ≢ p → get_or (touched ws p e) (x * 3 + 1) 0 ≡ get_or ws (x * 3 + 1) 0
  start-touched-other x h =
      get_or-set_other (set ws (p * 3) (get_or ws (p * 3) 0 + 1)) (p * 3 + 1) (x * 3 + 1) e 0 (λ z. h (omega arith))
      ∙ get_or-set_other ws (p * 3) (x * 3 + 1) (get_or ws (p * 3) 0 + 1) 0 (λ z. omega arith)

  length-touched : length (touched ws p e) ≡ length ws
  length-touched = length-set (set ws (p * 3) (get_or ws (p * 3) 0 + 1)) (p * 3 + 1) e ∙ length-set ws (p * 3) (get_or ws (p * 3) 0 + 1)

module _ (m : Mesh) (k f p q : ℕ) (v : Float) (differ : p ≢ q) (fits : p * 3 + 3 ≤ length m.points) (fits' : q * 3 + 3 ≤ length m.points) where
  room : q * 3 + 3 ≤ length (touched m.points p k)
  room = rw (length-touched m.points p k) fits'

  pub valence-new_edge-first : valence (new_edge m k f p q v) p ≡ suc (valence m p)
  unfolding new_edge
  valence-new_edge-first = valence-touched-other (touched m.points p k) q k p differ ∙ valence-touched m.points p k fits

  pub valence-new_edge-second : valence (new_edge m k f p q v) q ≡ suc (valence m q)
  unfolding new_edge
  valence-new_edge-second =
      valence-touched (touched m.points p k) q k room ∙ ap suc (valence-touched-other m.points p k q (λ h. differ (sym h)))

  pub valence-new_edge-other : (x : ℕ) → x ≢ p → x ≢ q → valence (new_edge m k f p q v) x ≡ valence m x
  unfolding new_edge
  valence-new_edge-other x h h' = valence-touched-other (touched m.points p k) q k x h' ∙ valence-touched-other m.points p k x h

  pub start-new_edge-first : start (new_edge m k f p q v) p ≡ k
  unfolding new_edge
  start-new_edge-first = start-touched-other (touched m.points p k) q k p differ ∙ start-touched m.points p k fits

  pub start-new_edge-second : start (new_edge m k f p q v) q ≡ k
  unfolding new_edge
  start-new_edge-second = start-touched (touched m.points p k) q k room

  pub start-new_edge-other : (x : ℕ) → x ≢ p → x ≢ q → start (new_edge m k f p q v) x ≡ start m x
  unfolding new_edge
  start-new_edge-other x h h' = start-touched-other (touched m.points p k) q k x h' ∙ start-touched-other m.points p k x h

-- ---- a face filled in on the right

abbrev pub with_right : TnurccEdge → ℕ → TnurccEdge
with_right e f =
    record {
      connections = e.connections;
      face_left = e.face_left;
      face_right = f;
      origin = e.origin;
      dest = e.dest;
      knot_interval = e.knot_interval;
    }

module _ (m : Mesh) (e f : ℕ) where
  pub row-filled : e * 8 + 8 ≤ length m.edges → row (with_right_face m e f) e ≡ with_right (row m e) f
  unfolding with_right_face
  row-filled fits =
      rw (
        get_or-set_same m.edges (e * 8 + 3) f 0 (omega arith),
        get_or-set_other m.edges (e * 8 + 3) (e * 8) f 0 (λ z. omega arith),
        get_or-set_other m.edges (e * 8 + 3) (e * 8 + 1) f 0 (λ z. omega arith),
        get_or-set_other m.edges (e * 8 + 3) (e * 8 + 2) f 0 (λ z. omega arith),
        get_or-set_other m.edges (e * 8 + 3) (e * 8 + 4) f 0 (λ z. omega arith),
        get_or-set_other m.edges (e * 8 + 3) (e * 8 + 5) f 0 (λ z. omega arith),
        get_or-set_other m.edges (e * 8 + 3) (e * 8 + 6) f 0 (λ z. omega arith),
        get_or-set_other m.edges (e * 8 + 3) (e * 8 + 7) f 0 (λ z. omega arith),
      )

  pub row-filled-other : (x : ℕ) → x ≢ e → row (with_right_face m e f) x ≡ row m x
  unfolding with_right_face
  row-filled-other x h =
      row-cong m.edges (set m.edges (e * 8 + 3) f) m.intervals m.intervals x
      (λ j l. get_or-set_other m.edges (e * 8 + 3) (x * 8 + j) f 0 (λ z. h (omega arith))) refl

-- ---- two edges connected

module _ (m : Mesh) (e o : ℕ) where
  abbrev pub pair : Pair
  pair = pair_of m.edges m.intervals e o

  pub row-joined-other :
      length pair.other.connections ≡ 4 → pair.other.knot_interval ≡ (row m o).knot_interval → o * 8 + 8 ≤ length m.edges →
      row (joined m e o) o ≡ pair.other
  unfolding joined connected_rows
  row-joined-other four v fits =
      row_put (put_row m.edges (e * 8) (edge_words pair.first)) m.intervals o pair.other four
      (rw (length-put_row (edge_words pair.first) m.edges (e * 8)) fits) (sym v)

  pub row-joined-first :
      e ≢ o → length pair.first.connections ≡ 4 → pair.first.knot_interval ≡ (row m e).knot_interval → e * 8 + 8 ≤ length m.edges →
      row (joined m e o) e ≡ pair.first
  unfolding joined connected_rows
  row-joined-first differ four v fits =
      row-put-other (put_row m.edges (e * 8) (edge_words pair.first)) m.intervals o e pair.other differ
      ∙ row_put m.edges m.intervals e pair.first four fits (sym v)

  pub row-joined-rest : (x : ℕ) → x ≢ e → x ≢ o → row (joined m e o) x ≡ row m x
  unfolding joined connected_rows
  row-joined-rest x h h' =
      row-put-other (put_row m.edges (e * 8) (edge_words pair.first)) m.intervals o x pair.other h'
      ∙ row-put-other m.edges m.intervals e x pair.first h

-- ---- the row of a face

module _ (m : Mesh) (f e : ℕ) where
  pub face_start-with_face : f * 5 + 5 ≤ length m.faces → face_start (with_face m f e) f ≡ e
  face_start-with_face fits =
      ap (λ k. get_or (with_face m f e).faces k 0) (sym (add-zero (f * 5))) ∙ get_or-put_row (face_words (face_of e)) m.faces (f * 5) 0 0 (omega arith) fits

  pub corner-with_face : (c : ℕ) → c < 4 → f * 5 + 5 ≤ length m.faces → corner (with_face m f e) f c ≡ none
  corner-with_face c h fits = get_or-put_row (face_words (face_of e)) m.faces (f * 5) (c + 1) 0 (omega arith) fits ∙ nones c h
    where
      nones : (c : ℕ) → c < 4 → get_or (face_words (face_of e)) (c + 1) 0 ≡ none
      nones zero h = refl
      nones (suc zero) h = refl
      nones (suc (suc zero)) h = refl
      nones (suc (suc (suc zero))) h = refl
      nones (suc (suc (suc (suc c)))) h = absurd (omega arith)

  pub face_start-with_face-other : (x : ℕ) → x ≢ f → face_start (with_face m f e) x ≡ face_start m x
  face_start-with_face-other x h =
      ap (λ k. get_or (with_face m f e).faces k 0) (sym (add-zero (x * 5)))
      ∙ get_or-put_row-other (face_words (face_of e)) m.faces 5 f x 0 0 refl h (omega arith) ∙ ap (λ k. get_or m.faces k 0) (add-zero (x * 5))

  pub corner-with_face-other : (x c : ℕ) → x ≢ f → c < 4 → corner (with_face m f e) x c ≡ corner m x c
  corner-with_face-other x c h k = get_or-put_row-other (face_words (face_of e)) m.faces 5 f x (c + 1) 0 refl h (omega arith)
