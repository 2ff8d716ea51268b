-- What a handle owns.
use Rattle.cc_host.specs.Hosts.{State}
use Rattle.std.specs.Prelude.{Option, None, Some}
use mir.Syntax.{Ty}
use base.Fml.{Fml, ftrue}
use denote.RawPtr.{Ptr}
use Rattle.std.specs.Box.Ownership.{box_owns}
use Rattle.std.specs.contracts.impls.GlobalAllocator.TheImpl.{ghosts}
use Rattle.cc_host.specs.contracts.host.Host.{the_row}

-- the right to free a block of the C library's heap
abbrev pub may_free : Ty → Ptr → Fml
may_free = ghosts.dealloc_token (record { memory = record { seal = tt } })

-- the box of an open handle; a closed one owns nothing
unfoldable pub opened : Ptr → Option State → Fml
opened p None = ftrue
opened p (Some x) = box_owns may_free the_row p x
