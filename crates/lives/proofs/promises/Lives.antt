-- DEMAND 3, AND WHAT GOES WITH IT, THROUGH ANY NUMBER OF POWER CUTS, whatever calls a host mixes: each is the promise of histories, said of the history that a life is told as. Assumes nothing.
use Rattle.octets.proofs.Kit.{ℕ, ◌<◌, ◌≤◌, ◌≡◌, true, false, List, [], ◌∷◌, ◌++◌, arith}
use Rattle.device.specs.Sessions.{session_of}
use Rattle.events.specs.Events.{Event}
use Rattle.history.specs.{Wish.offer_key, History.First, Keeps.{state_after, Kept}, Keyless.{NotOffered, Closed, Protected}, Isolation.Beside, Rightful.ours}
use Rattle.history.{specs.{Secret.{Hide, NoneBelow, AllAlike}, Calls.Follows}, proofs.promises.{Keyless.locked, Calls.{calls_keep, keyless_calls, isolated_calls}, Unlearned.unlearned_calls}}
use Rattle.history.specs.Wish as wish
use Rattle.account.{specs.Account.Traced, proofs.promises.Accounts.accounts_calls}
use Rattle.link.specs.Net.{state_of}
use Rattle.lives.specs.Life.{Running, Happening, saved, late, cut, Ran, apart, tell, telling, told, kept, first_of, Begun, NeverOffered}
use Rattle.lives.proofs.Follows.{lived}

-- a disconnect offers no key
quiet : {n : ℕ} → wish.nothing ≡ offer_key n → ⊥
quiet e = let z : ◌≡◌ {A = ℕ} 0 1 = cc in omega arith

module _ (f : First) (l : ℕ) where
  still_locked : (es : List Event) → NotOffered f l es → NotOffered f l (apart es)
  still_locked es n = (λ k m e. quiet e, (λ k m e. quiet e, n))

  locked_on : (es gs : List Event) → NotOffered f l es → NotOffered f l gs → NotOffered f l (es ++ gs)
  locked_on [] gs n m = m
  locked_on (e ∷ es) gs n m = (n.0, locked_on es gs n.1 m)

  -- a life in which nobody offers a key is such a history
  told_locked : (h : List Happening) → NeverOffered f l h → NotOffered f l (told h) × NotOffered f l (kept h)
  unfolding telling tell
  told_locked [] n = (tt, tt)
  told_locked (saved es ∷ h) n = let q = locked_on es (told h) n.0 (told_locked h n.1).0 in (q, q)
  told_locked (late es ∷ h) n = let q = told_locked h n.1 in (locked_on es (told h) n.0 q.0, q.1)
  told_locked (cut true es ∷ h) n = let q = still_locked (es ++ told h) (locked_on es (told h) n.0 (told_locked h n.1).0) in (q, q)
  told_locked (cut false es ∷ h) n = let q = still_locked (kept h) (told_locked h n.1).1 in (q, q)

module _ {x y : Running} {h : List Happening} (b : Begun x) (k : Ran x h y) where
  -- A LIFE IS A HISTORY
  pub lives_follow : Follows (first_of x) (told h) (state_of y.net)
  lives_follow = (lived b k).follows

  -- DEMAND 3
  pub lives_keep : Kept ours (first_of x) (told h) × (state_of y.net ≡ state_after ours (first_of x) (told h))
  lives_keep = calls_keep b.begins lives_follow

  -- NOBODY WITHOUT THE KEY, be the offers of others kept or lost
  pub lives_keyless : (l : ℕ) → l < 3 → Closed (first_of x) → NeverOffered (first_of x) l h → Protected (first_of x) l (state_of y.net)
  lives_keyless l low closed n =
      let q = locked l low (first_of x) closed (told h) (told_locked (first_of x) l h n).0 in
      keyless_calls b.begins lives_follow l low closed (q 0) (q 1)

  -- WHO CHANGED WHAT, of every byte and of every level, and by what right
  pub lives_accounts : Traced (first_of x) (told h) (state_of y.net)
  lives_accounts = accounts_calls b.begins lives_follow

-- NOTHING IS LEARNED below level q: two lives that are told as the same events, from sheets that hide it
pub lives_unlearned :
    (q : ℕ) → q ≤ 3 → {x x' y y' : Running} {h h' : List Happening} → Begun x → Begun x' → x'.net.link.sessions ≡ x.net.link.sessions →
    Hide q x.net.sheet x'.net.sheet → AllAlike (told h) (told h') → NoneBelow q (first_of x) (told h) → Ran x h y → Ran x' h' y' →
    (y'.net.link.sessions ≡ y.net.link.sessions) × Hide q y.net.sheet y'.net.sheet
lives_unlearned q few b b' s u r n k k' = unlearned_calls q few b.begins s u r (lives_follow b k) (lives_follow b' k') n

-- TWO TOOLS AT ONCE: two lives that differ in what the other tool may have sent alone leave the same sheet, and the same session of the first
pub lives_isolated :
    {x y y' : Running} {h h' : List Happening} (t o : ℕ) → (t ≡ o → ⊥) → Begun x → Beside ours (first_of x) o (told h) (told h') → Ran x h y → Ran x h' y' →
    (y.net.sheet ≡ y'.net.sheet) × (session_of y.net.link.sessions t ≡ session_of y'.net.link.sessions t)
lives_isolated {x} t o n b s k k' = isolated_calls (first_of x) t o n s (lives_follow b k) (lives_follow b k')
