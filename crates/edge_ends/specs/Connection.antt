-- The numbers of the four connections (document 01: LeftCw 0, LeftAcw 1, RightCw 2, RightAcw 3).
--     index_of c         the number of a connection
--     connection_at i    the connection with a number; a number past the last one is read as the last
use Rattle.std.specs.Prelude.{cond, ℕ, eqb}
use Rattle.edge_ends.specs.declared.TnurccConnection.{TnurccConnection}
use Rattle.edge_ends.specs.declared.TnurccConnection.TheVariants.{LeftCw, LeftAcw, RightCw, RightAcw}

abbrev pub index_of : TnurccConnection → ℕ
index_of LeftCw = 0
index_of LeftAcw = 1
index_of RightCw = 2
index_of RightAcw = 3

abbrev pub connection_at : ℕ → TnurccConnection
connection_at i = cond (eqb i 0) LeftCw (cond (eqb i 1) LeftAcw (cond (eqb i 2) RightCw RightAcw))
