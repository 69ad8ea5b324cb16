-- Numbers one after the other, each in so many bytes.
use Rattle.std.specs.Prelude.{ℕ, ◌+◌, ◌≤◌, List, [], ◌∷◌, ◌++◌}
use Rattle.octets.specs.Bytes.{bytes_of}
use Rattle.pdu.specs.declared.head.Part.{Part}

abbrev pub run_of : List Part → List ℕ
run_of [] = []
run_of (p ∷ ps) = bytes_of p.0 p.1 ++ run_of ps

abbrev pub width_of : List Part → ℕ
width_of [] = 0
width_of (p ∷ ps) = p.0 + width_of ps

-- none is wider than a serial number
abbrev pub Narrow : List Part → Type 0
Narrow [] = Unit {0}
Narrow (p ∷ ps) = (p.0 ≤ 6) × Narrow ps
