-- The refusals by their numbers: of reading, of a meaning, of writing.
use Rattle.std.specs.Prelude.{ℕ, Result, Ok, Err}
use Rattle.cemi.specs.declared.ReadRefusal.{ReadRefusal}
use Rattle.cemi.specs.declared.ReadRefusal.TheVariants as reading
use Rattle.cemi.specs.declared.NoMeaning.{NoMeaning}
use Rattle.cemi.specs.declared.NoMeaning.TheVariants as none
use Rattle.cemi.specs.declared.WriteRefusal.{WriteRefusal}
use Rattle.cemi.specs.declared.WriteRefusal.TheVariants as writing

abbrev pub read_number : ReadRefusal → ℕ
read_number reading.Short = 40
read_number reading.Code = 41
read_number reading.Extended = 42
read_number reading.Length = 43

abbrev pub none_number : NoMeaning → ℕ
none_number none.Transport = 44
none_number none.Acknowledgement = 45

abbrev pub write_number : WriteRefusal → ℕ
write_number writing.Room = 46
write_number writing.Fields = 47

-- an outcome of reading by its number: 0, or that of the refusal
abbrev pub told : {A : Type 0} → Result A ReadRefusal → ℕ
told (Ok a) = 0
told (Err e) = read_number e
