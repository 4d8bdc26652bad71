-- The laws of connections. Assumes nothing.
use mathlib.Core.Path.{◌≡◌, refl}
use Prim.Native.Nat.{◌<◌}
use native.Mathlib.Omega.{arith}
use Rattle.edge_ends.specs.Connection.{index_of, connection_at}
use Rattle.edge_ends.specs.declared.TnurccConnection.{TnurccConnection}
use Rattle.edge_ends.specs.declared.TnurccConnection.TheVariants.{LeftCw, LeftAcw, RightCw, RightAcw}

pub index_below : (c : TnurccConnection) → index_of c < 4
index_below LeftCw = omega arith
index_below LeftAcw = omega arith
index_below RightCw = omega arith
index_below RightAcw = omega arith

-- the connection with the number of a connection is that connection
pub connection-at-index : (c : TnurccConnection) → connection_at (index_of c) ≡ c
connection-at-index LeftCw = refl
connection-at-index LeftAcw = refl
connection-at-index RightCw = refl
connection-at-index RightAcw = refl
