-- What the library for stations says of itself. What its other functions answer and leave is said where the answers are told
-- (`station_building`, `station_mending`, `station_places`, `station_audits`, `station_steps`, `station_listings`).
--     library_version          the version of the library: 1 for document 01, and one more for each request of document 02 that is in it
use Rattle.std.specs.Prelude.{ℕ}

abbrev pub library_version : ℕ
library_version = 10
