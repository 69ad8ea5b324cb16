-- WHAT REMOVING A VERSION GIVES.
use Rattle.std.specs.Prelude.{ℕ, ◌-◌, ◌≡◌, cond, List, [], ◌∷◌, ◌++◌, eqb, length, drop, replicate}
use Rattle.sheet.specs.Layout.{◌of◌}
use Rattle.versions.specs.Head as head
use Rattle.versions.specs.Store.{Version, laid, kept, is_kept}
use Rattle.versions.specs.Rules.{is_store, bad_store, not_kept}

-- the versions without the one that has a number
unfoldable pub without : ℕ → List Version → List Version
without x [] = []
without x (v ∷ vs) = cond (eqb v.number x) vs (v ∷ without x vs)

-- the store with the versions that are left; what was theirs and is no longer is zero, and what was free stays
unfoldable pub removed : List ℕ → ℕ → List ℕ
removed s x =
    let old = laid (head.last of s) (kept s) in
    let new = laid (head.last of s) (without x (kept s)) in new ++ (replicate (length old - length new) 0 ++ drop (length old) s)

-- THE OUTCOME: 30 for a bad store, 34 for a number that is not kept, else 1; and the store afterwards
unfoldable pub remove_outcome : List ℕ → ℕ → ℕ
remove_outcome s x = cond (is_store s) (cond (is_kept s x) 1 not_kept) bad_store

unfoldable pub remove_store : List ℕ → ℕ → List ℕ
remove_store s x = cond (eqb (remove_outcome s x) 1) (removed s x) s

pub record Removed (s : List ℕ) (x r : ℕ) (s' : List ℕ) : Type 0 where
  pub outcome : r ≡ remove_outcome s x
  pub store : s' ≡ remove_store s x
