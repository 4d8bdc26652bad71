-- Places as two lists, of the points that they run from and to, and the lists by which mates are found. A link is 0, or 1 more than a place.
--     joins_at ls ts p q j   place j joins the points p and q, in either direction
--     low_at ls ts j         the lower point of place j
--     mate_at ls ts k        the link to the last place before place k on its edge
--     third_at ls ts k       that one has a mate as well
--     second_at ls ts n k    the link to the last of n places whose mate is place k
--     ChainLinks            behind each of k places stands the link to the last one before it with its lower point
--     PlacesChained               so it is, and at each point stands the link to the last of k places with it as lower point
--     LinksRoom, PairRoom        place k is in the lists
--     PlacesRoom            so are n places from place a on
--     PairedAt                what pairing place k with its mate leaves and answers
--     PlacesEntered               the lists after k places
--     EnteredTo             what entering k places leaves, unless one of them is the third on its edge
use Rattle.std.specs.Prelude.{◌≡◌, Bool, true, false, not, ◌&&◌, ◌||◌, List, ℕ, zero, suc, ◌+◌, ◌-◌, ◌≤◌, ◌<◌, min, eqb, length, get_or, set}
use Rattle.mended_lists.specs.Edges.{latest}

abbrev pub joins_at : List ℕ → List ℕ → ℕ → ℕ → ℕ → Bool
joins_at ls ts p q j = eqb (get_or ls j 0) p && eqb (get_or ts j 0) q || eqb (get_or ls j 0) q && eqb (get_or ts j 0) p

abbrev pub low_at : List ℕ → List ℕ → ℕ → ℕ
low_at ls ts j = min (get_or ls j 0) (get_or ts j 0)

abbrev pub mate_at : List ℕ → List ℕ → ℕ → ℕ
mate_at ls ts k = latest (λ j. joins_at ls ts (get_or ls k 0) (get_or ts k 0) j) k

abbrev pub has_mate_at : List ℕ → List ℕ → ℕ → Bool
has_mate_at ls ts zero = false
has_mate_at ls ts (suc j) = not (eqb (mate_at ls ts j) 0)

abbrev pub third_at : List ℕ → List ℕ → ℕ → Bool
third_at ls ts k = has_mate_at ls ts (mate_at ls ts k)

abbrev pub second_at : List ℕ → List ℕ → ℕ → ℕ → ℕ
second_at ls ts n k = latest (λ i. eqb (mate_at ls ts i) (suc k)) n

abbrev pub ChainLinks : List ℕ → List ℕ → List ℕ → ℕ → Type 0
ChainLinks ls ts links k = (j : ℕ) → j < k → get_or links j 0 ≡ latest (λ i. eqb (low_at ls ts i) (low_at ls ts j)) j

pub record PlacesChained (ls ts heads links : List ℕ) (k : ℕ) : Type 0 where
  pub head : (p : ℕ) → p < length heads → get_or heads p 0 ≡ latest (λ i. eqb (low_at ls ts i) p) k
  pub link : ChainLinks ls ts links k

pub record LinksRoom (ls ts : List ℕ) (np : ℕ) (links : List ℕ) (k : ℕ) : Type 0 where
  pub listed-fit : k < length ls
  pub tos-fit : k < length ts
  pub links-fit : k < length links
  pub low-fit : low_at ls ts k < np
  pub few : k < 16384

pub record PairRoom (mates seconds : List ℕ) (k : ℕ) : Type 0 where
  pub mates-fit : k < length mates
  pub seconds-fit : k < length seconds
  pub few : k < 16384

pub record PlacesRoom (ls ts : List ℕ) (np : ℕ) (links mates seconds : List ℕ) (a n : ℕ) : Type 0 where
  pub room : (i : ℕ) → i < n → LinksRoom ls ts np links (a + i)
  pub pair-room : (i : ℕ) → i < n → PairRoom mates seconds (a + i)

-- the place has the mate m, which has it as its second and had no mate itself
pub record PairedAt (mates seconds mates' seconds' : List ℕ) (k m : ℕ) (r : Bool) : Type 0 where
  pub mates-are : mates' ≡ set mates k m
  pub none : m ≡ 0 → (seconds' ≡ seconds) × (r ≡ true)
  pub some : (j : ℕ) → m ≡ suc j → (seconds' ≡ set seconds j (suc k)) × (r ≡ eqb (get_or (set mates k m) j 0) 0)

pub record PlacesEntered (ls ts heads links mates seconds : List ℕ) (k : ℕ) : Type 0 where
  pub chained : PlacesChained ls ts heads links k
  pub mate-is : (j : ℕ) → j < k → get_or mates j 0 ≡ mate_at ls ts j
  pub second_is : (j : ℕ) → j < length seconds → get_or seconds j 0 ≡ second_at ls ts k j

abbrev pub EnteredTo : List ℕ → List ℕ → List ℕ → List ℕ → List ℕ → List ℕ → ℕ → Bool → Type 0
EnteredTo ls ts heads links mates seconds k r = r ≡ true → PlacesEntered ls ts heads links mates seconds k
