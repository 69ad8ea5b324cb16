-- A LIFE OF A MEDIUM: saves, and saves that were cut.
use Rattle.std.specs.Prelude.{ℕ, ◌≤◌, ◌<◌, ◌≡◌, List, [], ◌∷◌, Bool, true, false, cond, length}
use Rattle.slots.specs.Slot.{longest, next_of}
use Rattle.slots.specs.Medium.{Held, nothing, sheet, held, Medium, choice, Saved, Broken}

-- numbers go round here
abbrev pub numbers : ℕ
numbers = 4294967296

-- beside a sheet under number n: nothing, or a sheet under the number before it
pub data Older (n : ℕ) : Held → Type 0 where
  none : Older n nothing
  last : (m : ℕ) (t : List ℕ) → m < numbers → n ≡ next_of m → Older n (sheet m t)

-- A MEDIUM THAT A UNIT STARTS FROM WITH s, and may save to
pub data Ready (s : List ℕ) (m : Medium) : Type 0 where
  one : (n : ℕ) → n < numbers → held m.first ≡ sheet n s → Older n (held m.second) → Ready s m
  two : (n : ℕ) → n < numbers → held m.second ≡ sheet n s → Older n (held m.first) → Ready s m

-- it starts with s
pub data Starts (s : List ℕ) (m : Medium) : Type 0 where
  starts : (n : ℕ) → choice m ≡ sheet n s → Starts s m

-- A NEW ONE, whose slots hold nothing
pub record Blank (m : Medium) : Type 0 where
  pub first : held m.first ≡ nothing
  pub second : held m.second ≡ nothing

-- after the first save was cut
abbrev pub FirstCut : Bool → List ℕ → Medium → Type 0
FirstCut true t m = Ready t m
FirstCut false t m = Blank m

-- a save that was finished; one that the power was lost in, the mark being set or not
pub data Act : Type 0 where
  save : List ℕ → Act
  cut : Bool → List ℕ → Act

abbrev pub Fits : Act → Type 0
Fits (save t) = length t ≤ longest
Fits (cut set t) = length t ≤ longest

abbrev pub AllFit : List Act → Type 0
AllFit [] = Unit {0}
AllFit (a ∷ h) = Fits a × AllFit h

-- A LIFE, the newest act first
pub data Lives (m : Medium) : List Act → Medium → Type 0 where
  begin : Lives m [] m
  saves : {h : List Act} {x y : Medium} {t : List ℕ} → Lives m h x → Saved t x y → Lives m (save t ∷ h) y
  cuts : {h : List Act} {x y : Medium} {set : Bool} {t : List ℕ} → Lives m h x → Broken set t x y → Lives m (cut set t ∷ h) y

-- THE LAST SHEET WHOSE MARK WAS SET; s is the first
unfoldable pub last_of : List ℕ → List Act → List ℕ
last_of s [] = s
last_of s (save t ∷ h) = t
last_of s (cut set t ∷ h) = cond set t (last_of s h)
