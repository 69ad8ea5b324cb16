-- A STORE OVER TIME: any calls that may change it, one after the other.
use Rattle.std.specs.Prelude.{ℕ, ◌≡◌, List, [], ◌∷◌}
use Rattle.versions.specs.Saving.{save_store}
use Rattle.versions.specs.Removing.{remove_store}

-- the properties of a sheet saved, a number removed
pub data Change : Type 0 where
  saves : List ℕ → Change
  removes : ℕ → Change

unfoldable pub changed : Change → List ℕ → List ℕ
changed (saves sheet) s = save_store sheet s
changed (removes x) s = remove_store s x

unfoldable pub changed_all : List Change → List ℕ → List ℕ
changed_all [] s = s
changed_all (c ∷ cs) s = changed_all cs (changed c s)

-- none of them removes a number
abbrev pub Spares : ℕ → Change → Type 0
Spares x (saves sheet) = Unit {0}
Spares x (removes y) = y ≡ x → ⊥

unfoldable pub AllSpare : ℕ → List Change → Type 0
AllSpare x [] = Unit {0}
AllSpare x (c ∷ cs) = Spares x c × AllSpare x cs
