use Rattle.std.proofs.Common.{arith}
use Rattle.cc_host.proofs.host.Host.most_told.Goals as goal

pub overflow_add-result : goal.overflow_add-result
overflow_add-result c = omega (arith, c.natives-natives.ensures, c.scripts-scripts.ensures, c.self.invariant.0.all, c.room-room.ensures, c.room-room.type_inv)

pub overflow_add-result-2 : goal.overflow_add-result-2
overflow_add-result-2 c = omega (arith, c.natives-natives.ensures, c.scripts-scripts.ensures, c.self.invariant.0.all, c.room-room.ensures, c.room-room.type_inv)

pub overflow_add-result-3 : goal.overflow_add-result-3
overflow_add-result-3 c = omega (arith, c.natives-natives.ensures, c.scripts-scripts.ensures, c.self.invariant.0.all, c.room-room.ensures, c.room-room.type_inv)

pub overflow_add-result-4 : goal.overflow_add-result-4
overflow_add-result-4 c = omega (arith, c.natives-natives.ensures, c.scripts-scripts.ensures, c.self.invariant.0.all, c.room-room.ensures, c.room-room.type_inv)
