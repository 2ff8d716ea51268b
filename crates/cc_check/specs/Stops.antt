-- WHY THERE IS NO VERDICT, by what stopped the reading.
use Rattle.cc_reader.specs.declared.read_stop.ReadStop.{ReadStop}
use Rattle.cc_reader.specs.declared.read_stop.ReadStop.TheVariants as stop
use Rattle.cc_check.specs.declared.verdict.CheckStop.{CheckStop}
use Rattle.cc_check.specs.declared.verdict.CheckStop.TheVariants.{Fault, Limit, NoMemory}

abbrev pub stop_of : ReadStop → CheckStop
stop_of stop.Fault = Fault
stop_of stop.Limit = Limit

abbrev pub out_of_memory : CheckStop
out_of_memory = NoMemory
