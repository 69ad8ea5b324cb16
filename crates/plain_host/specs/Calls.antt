-- What a request in C gives is what a request gives.
use Rattle.device.specs.declared.Done.{Done}
use Rattle.plain_host.specs.declared.Reply.{Reply}

abbrev pub gave : Reply → Done
gave r = record { outcome = r.outcome; count = r.count; sessions = r.sessions }
