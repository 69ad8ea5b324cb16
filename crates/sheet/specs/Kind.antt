-- The kinds of entries, and what goes by them.
use Rattle.std.specs.Prelude.{◌≡◌, ℕ, zero, suc, ◌<◌}
use Rattle.sheet.specs.declared.Kind.{Kind}
use Rattle.sheet.specs.declared.Kind.TheVariants.{Regions, Properties, Groups, Users}
use Rattle.sheet.specs.declared.Memory.{Memory}
use Rattle.sheet.specs.declared.Memory.TheVariants.{Device, User}

abbrev pub regions : ℕ
regions = 0

abbrev pub properties : ℕ
properties = 1

abbrev pub groups : ℕ
groups = 2

-- the user regions
abbrev pub users : ℕ
users = 3

-- how many kinds there are
abbrev pub kinds : ℕ
kinds = 4

-- the number of a kind
abbrev pub number_of : Kind → ℕ
number_of Regions = regions
number_of Properties = properties
number_of Groups = groups
number_of Users = users

-- a user region has the entry and the body of a region
abbrev pub by_kind {ℓ} : {A : Type ℓ} → ℕ → A → A → A → A
by_kind zero a b c = a
by_kind (suc zero) a b c = b
by_kind (suc (suc zero)) a b c = c
by_kind (suc (suc (suc k))) a b c = a

-- the kind of entry that the regions of a memory are
abbrev pub kind_of : Memory → ℕ
kind_of Device = regions
kind_of User = users

-- r is a, b, c or d by the kind, case by case
pub record OfKind (r k a b c d : ℕ) : Type 0 where
  pub region : k ≡ 0 → r ≡ a
  pub property : k ≡ 1 → r ≡ b
  pub group : k ≡ 2 → r ≡ c
  pub user : 2 < k → r ≡ d
