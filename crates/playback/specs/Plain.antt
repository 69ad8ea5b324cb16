-- 50 to 58 as nine propositions about a trace, for a reader who trusts no rows.
use Rattle.std.specs.Prelude.{ℕ, zero, suc, ◌+◌, ◌*◌, ◌≤◌, ◌<◌, ◌≡◌, List, length}
use Rattle.sheet.specs.Layout.{◌of◌}
use Rattle.playback.specs.Entry as entry
use Rattle.playback.specs.Trace.{count, entry_of}

abbrev pub T50 : List ℕ → Type 0
T50 t = 2 ≤ length t

abbrev pub T51 : List ℕ → Type 0
T51 t = count t ≤ 512

abbrev pub T52 : List ℕ → Type 0
T52 t = 2 + 8 * count t ≤ length t

-- of event i, counted from 0
abbrev pub T53 : List ℕ → ℕ → Type 0
T53 t i = entry.kind of entry_of t i ≤ 4

abbrev pub T54 : List ℕ → ℕ → Type 0
T54 t i = 0 < entry.length of entry_of t i → entry.kind of entry_of t i ≡ 0

abbrev pub T55 : List ℕ → ℕ → Type 0
T55 t i = entry.zero of entry_of t i ≡ 0

-- where its APDU ends, and where it is to begin: right behind the table, or where the one before ends
abbrev pub ending : List ℕ → ℕ → ℕ
ending t i = entry.offset of entry_of t i + entry.length of entry_of t i

abbrev pub beginning : List ℕ → ℕ → ℕ
beginning t zero = 2 + 8 * count t
beginning t (suc i) = ending t i

abbrev pub T56 : List ℕ → ℕ → Type 0
T56 t i = entry.offset of entry_of t i ≡ beginning t i

abbrev pub T57 : List ℕ → ℕ → Type 0
T57 t i = ending t i ≤ length t

-- of the trace, after its last event
abbrev pub T58 : List ℕ → Type 0
T58 t = beginning t (count t) ≡ length t

-- the table fits
abbrev pub Tabled : List ℕ → Type 0
Tabled t = T50 t × T51 t × T52 t

-- event i breaks none, and none of the first n does
abbrev pub Sound : List ℕ → ℕ → Type 0
Sound t i = T53 t i × T54 t i × T55 t i × T56 t i × T57 t i

abbrev pub AllSound : List ℕ → ℕ → Type 0
AllSound t n = (i : ℕ) → i < n → Sound t i

-- HOW A TRACE IS JUDGED: by the first of the nine that it breaks, 53 to 57 event by event, and by 0 if it breaks none
pub data Judged (t : List ℕ) : ℕ → Type 0 where
  breaks50 : (T50 t → ⊥) → Judged t 50
  breaks51 : T50 t → (T51 t → ⊥) → Judged t 51
  breaks52 : T50 t → T51 t → (T52 t → ⊥) → Judged t 52
  breaks53 : Tabled t → (i : ℕ) → i < count t → AllSound t i → (T53 t i → ⊥) → Judged t 53
  breaks54 : Tabled t → (i : ℕ) → i < count t → AllSound t i → T53 t i → (T54 t i → ⊥) → Judged t 54
  breaks55 : Tabled t → (i : ℕ) → i < count t → AllSound t i → T53 t i → T54 t i → (T55 t i → ⊥) → Judged t 55
  breaks56 : Tabled t → (i : ℕ) → i < count t → AllSound t i → T53 t i → T54 t i → T55 t i → (T56 t i → ⊥) → Judged t 56
  breaks57 :
      Tabled t → (i : ℕ) → i < count t → AllSound t i → T53 t i → T54 t i → T55 t i → T56 t i → (T57 t i → ⊥) → Judged t 57
  breaks58 : Tabled t → AllSound t (count t) → (T58 t → ⊥) → Judged t 58
  none : Tabled t → AllSound t (count t) → T58 t → Judged t 0
