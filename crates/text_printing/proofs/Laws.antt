-- The lines of faces from their parts, and that what is read and written is in the lists. Assumes nothing.
--     listed-room side-room face-room   how long the parts are
--     parts-of                          four parts written one after another
--     side-fits from_more side_same     the sides of a face in turn
--     face-in                           a face of lists that agree is in them
--     faces-any                         the faces look at no coordinates and no version
use mathlib.Core.Path.{◌≡◌, refl, sym, ap, ◌∙◌}
use mathlib.Core.List.{List, [], ◌++◌}
use Prim.Native.Nat.{ℕ, zero, suc, ◌+◌, ◌*◌, ◌/◌, ◌≤◌, ◌<◌}
use native.Mathlib.Numerals.{add-one}
use native.Mathlib.Omega.{arith}
use lib.ListN.{length, get_or, length-append}
use lib.Ieee.{Float}
use Rattle.text_numbers.specs.Form.{bytes}
use Rattle.mesh_lines.specs.Grammar.{Listed, Side, flat}
use Rattle.built_meshes.specs.Lists.{Lists, faces_of, side_length, size, offset}
use Rattle.built_meshes.specs.Faces.{side_from, first_at}
use Rattle.built_meshes.specs.declared.Version.{Version}
use Rattle.built_meshes.specs.declared.Version.TheVariants.{Two}
use Rattle.built_meshes.proofs.Perimeter.{offset-suc, offset_up}
use Rattle.building_tests.specs.Lent.{lists, lists_in}
use Rattle.mesh_answers.specs.Lines.{decimal_bytes, bits_field}
use Rattle.mesh_answers.specs.Writing.{Written}
use Rattle.mesh_answers.proofs.Laws.{written-append, length-bits}
use Rattle.listings.specs.Handing.{up_to}
use Rattle.mesh_printing.specs.Printing.{listed_part, side_part, text_face_line}
use Rattle.mesh_printing.specs.Faces.{listed_from, side_at, side_in, faces_in, PrintingRoom, PrintingRooms}

-- ---- parts of lines

pub listed-room : (p : Listed) → length (listed_part p) ≡ 2 + (length (decimal_bytes p.point) + 18)
listed-room p =
    omega (
      arith,
      length-append (decimal_bytes p.point) (bits_field p.interval ++ bytes "]"),
      length-append (bits_field p.interval) (bytes "]"),
      length-bits p.interval,
    )

pub side-room : (d : Side) → length (side_part d) ≡ 2 + (length (decimal_bytes d.first) + (length (flat listed_part d.listed) + 1))
side-room d =
    omega (
      arith,
      length-append (decimal_bytes d.first) (flat listed_part d.listed ++ bytes "]"),
      length-append (flat listed_part d.listed) (bytes "]"),
    )

pub face-room : (ds : List Side) → length (text_face_line ds) ≡ 5 + (length (flat side_part ds) + 2)
face-room ds = omega (arith, length-append (flat side_part ds) (bytes "]\n"))

pub parts-of : {out : List ℕ} {at : ℕ} {a : List ℕ} {i : ℕ} {o1 b : List ℕ} {j : ℕ} {o2 c : List ℕ} {k : ℕ} {o3 d : List ℕ} {r : ℕ} {o4 : List ℕ}
    → Written out at a i o1 → Written o1 i b j o2 → Written o2 j c k o3 → Written o3 k d r o4 → Written out at (a ++ (b ++ (c ++ d))) r o4
parts-of wa wb wc wd = written-append wa (written-append wb (written-append wc wd))

-- ---- sides and faces

pub side-fits : (l : Lists) (f a k : ℕ) → k < 4 → side_from l f a k + side_length l f k ≤ a + size l f
side-fits l f a zero b = omega arith
side-fits l f a (suc zero) b = omega arith
side-fits l f a (suc (suc zero)) b = omega arith
side-fits l f a (suc (suc (suc zero))) b = omega arith
side-fits l f a (suc (suc (suc (suc k)))) b = absurd (omega arith)

pub from_more : (l : Lists) (f a k : ℕ) → side_from l f a (k + 1) ≡ side_from l f a k + side_length l f k
from_more l f a k = ap (side_from l f a) (add-one k)

pub offset-same : (v : Version) (cs : List Float) (ss fs ls : List ℕ) (is : List Float) (f : ℕ) → offset (lists [] ss [] []) f ≡ offset (lists_in v cs ss fs ls is) f
unfolding offset
offset-same v cs ss fs ls is f = refl

module _ (ss fs ls : List ℕ) (is : List Float) (f a k : ℕ) where
  pub side_same :
      {p b n : ℕ} → p ≡ get_or fs (f * 4 + k) 0 → b ≡ side_from (lists_in Two [] ss fs ls is) f a k → n ≡ get_or ss (f * 4 + k) 0 →
      a ≡ offset (lists [] ss [] []) f → side_at (lists_in Two [] [] [] ls is) p b n ≡ side_in (lists_in Two [] ss fs ls is) f k
  side_same {p} {b} {n} ep eb en ea =
      let l = lists_in Two [] ss fs ls is in
      let e = eb ∙ ap (λ (x : ℕ). side_from l f x k) (ea ∙ offset-same Two [] ss fs ls is f) in
      λ i. side_at l (ep i) (e i) (en i)

module _ {ss fs ls : List ℕ} {is : List Float} (h : PrintingRooms ss fs ls is) {f a : ℕ} (b : f < length ss / 4) (e : a ≡ offset (lists [] ss [] []) f) where
  pub face-in : PrintingRoom ss fs ls is f a
  face-in =
      record {
        sides-fit = omega arith;
        firsts-fit = omega (arith, h.firsts-fit);
        at-is = e;
        listed-fit =
            omega (arith, e, offset-suc (lists [] ss [] []) f, offset_up (lists [] ss [] []) (suc f) (length ss / 4) b, h.all_listed);
        intervals-fit = h.intervals-fit;
        all-finite = h.all-finite;
      }

pub offset-more : (ss : List ℕ) (f : ℕ) {a n : ℕ} → a ≡ offset (lists [] ss [] []) f → n ≡ size (lists [] ss [] []) f
    → a + n ≡ offset (lists [] ss [] []) (f + 1)
offset-more ss f ea en = rw (add-one f) (omega (arith, ea, en, offset-suc (lists [] ss [] []) f))

pub offset-none : (ss : List ℕ) → 0 ≡ offset (lists [] ss [] []) 0
unfolding offset
offset-none ss = refl

module _ (v : Version) (cs : List Float) (ss fs ls : List ℕ) (is : List Float) where
  from-any : (f k : ℕ) → side_from (lists_in v cs ss fs ls is) f (offset (lists_in v cs ss fs ls is) f) k
      ≡ side_from (lists_in Two [] ss fs ls is) f (offset (lists_in Two [] ss fs ls is) f) k
  unfolding offset
  from-any f zero = refl
  from-any f (suc k) = ap (λ (n : ℕ). n + get_or ss (f * 4 + k) 0) (from-any f k)

  pub faces-any : faces_in (lists_in v cs ss fs ls is) ≡ faces_in (lists_in Two [] ss fs ls is)
  faces-any =
      let l = lists_in Two [] ss fs ls is in
      λ i. up_to (faces_of l) (λ f. up_to 4 (λ k. side_at l (first_at l f k) (from-any f k i) (side_length l f k)))
