-- Worked: the flags of a group object by their numbers. Two of them exchanged in code and definitions at once would show here.
use Rattle.octets.proofs.Kit.{ℕ, ◌≡◌, refl, true, false, [], ◌∷◌, map}
use Rattle.judge.specs.Groups.{read, write, response, has_flag}

-- 1 lets it be read, 2 written, 4 take a Response
pub flags_told :
    map (λ (f : ℕ). has_flag read f ∷ has_flag write f ∷ has_flag response f ∷ []) (1 ∷ 2 ∷ 4 ∷ [])
    ≡ (true ∷ false ∷ false ∷ []) ∷ (false ∷ true ∷ false ∷ []) ∷ (false ∷ false ∷ true ∷ []) ∷ []
flags_told = refl
