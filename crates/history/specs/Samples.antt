-- First states for examples: the sample sheet, or the pump controller's, and fresh sessions.
use Rattle.device.specs.Sessions.{fresh_of}
use Rattle.device.specs.Marked.{sample}
use Rattle.device.specs.Pump.{pump}
use Rattle.history.specs.History.{First}

abbrev pub fresh : First
fresh = record { sheet = sample; sessions = fresh_of }

abbrev pub fresh_pump : First
fresh_pump = record { sheet = pump; sessions = fresh_of }
