-- WHAT A HISTORY SAYS OF ONE CONNECTION: what is not its own and no restart leaves it as it was, and a number above 1 has none.
use Rattle.octets.proofs.Kit.{ℕ, ◌≤◌, ◌≡◌, refl, sym, ap, ◌∙◌, Bool, true, false, cond, ◌&&◌, List, [], ◌∷◌, eqb, eq-eqb, ne_eqb, le-ltb}
use Rattle.octets.proofs.Truths.{never}
use Rattle.sheet.specs.Head.{rules_of}
use Rattle.judge.specs.declared.Session.{Session}
use Rattle.device.{specs.Sessions.closed, proofs.leaves.Connections.unknown_closed}
use Rattle.events.specs.Events.{Event, connect, disconnect, button, request, restore}
use Rattle.history.specs.{Wish.{Wish, change, offer_key, restart, other, nothing, asks}, Permit.{checks, heard}, History.{First, wished, is_restart, offered, opened, level, keys}}
use Rattle.history.specs.Isolation.{is_of}
use Rattle.history.proofs.spans.Bools.{all_at, and_false, cond_same}

-- the session of a connection, as the history has it
abbrev pub said : First → List Event → ℕ → Session
said f h c = record { opened = opened f h c; level = level f h c }

-- an offer is heard connected, on an open connection
offer_heard :
    (rules mode : ℕ) (live : Bool) (a out : List ℕ) (n : ℕ) → heard rules live mode a out (offer_key n) ≡ true →
    (eqb mode 3 ≡ true) × (live ≡ true)
unfolding heard
offer_heard rules mode live a out n e =
    let tests : List Bool = checks rules live mode a out (offer_key n) in
    let m : eqb mode 3 ≡ true = all_at tests e 5 in
    (m, rw m at (all_at tests e 4))

module _ (f : First) (h : List Event) (c : ℕ) where
  abbrev Heard : (mode d : ℕ) (a out : List ℕ) → Wish → Bool
  Heard mode d a out w = heard (rules_of f.sheet) (opened f h d) mode a out w

  -- the session after a request of connection d, heard (t) or not, that asks for w
  abbrev Left : ℕ → Bool → Wish → Session
  Left d t w =
      record { opened = cond (t && is_restart w) false (opened f h c); level = cond t (offered (keys f h) (eqb c d) (level f h c) w) (level f h c) }

  -- WHAT IS NOT ITS OWN AND NO RESTART
  pub other_connection : (e : Event) → is_of c e ≡ false → (wished e ≡ restart → ⊥) → said f (e ∷ h) c ≡ said f h c
  unfolding opened level keys
  other_connection (connect d) n r = rw (ne_eqb c d (λ q. never (sym n ∙ eq-eqb d c (sym q))))
  other_connection (disconnect d) n r = rw (ne_eqb c d (λ q. never (sym n ∙ eq-eqb d c (sym q))))
  other_connection (button on) n r = refl
  other_connection (restore d k st) n r = refl
  other_connection (request mode d g a out) n r = go (asks a) (Heard mode d a out (asks a)) refl r
    where
      go : (w : Wish) (t : Bool) → Heard mode d a out w ≡ t → (w ≡ restart → ⊥) → Left d t w ≡ said f h c
      go w false s r = refl
      go (change z) true s r = refl
      go (offer_key k) true s r =
          rw (ne_eqb c d (λ q. never (sym n ∙ rw ((offer_heard _ mode _ a out k s).0, eq-eqb d c (sym q)))))
      go restart true s r = absurd (r refl)
      go (other z) true s r = refl
      go nothing true s r = refl

-- A NUMBER ABOVE 1
pub no_connection : (f : First) (h : List Event) (c : ℕ) → 2 ≤ c → said f h c ≡ closed
unfolding opened level keys
no_connection f [] c l = unknown_closed f.sessions c l
no_connection f (e ∷ h) c l = next e (no_connection f h c l)
  where
    shut : said f h c ≡ closed → opened f h c ≡ false
    shut s = ap (λ (q : Session). q.opened) s

    weakest : said f h c ≡ closed → level f h c ≡ 3
    weakest s = ap (λ (q : Session). q.level) s

    next : (e : Event) → said f h c ≡ closed → said f (e ∷ h) c ≡ closed
    next (connect d) s =
        simp (shut s, weakest s, le-ltb c 2 l, and_false (eqb c d), cond_same {A = ℕ} (eqb c d) 3)
    next (disconnect d) s = simp (shut s, weakest s, cond_same (eqb c d) false, cond_same {A = ℕ} (eqb c d) 3)
    next (button on) s = s
    next (restore d k st) s = s
    next (request mode d g a out) s = go (asks a) (Heard f h c mode d a out (asks a)) refl
      where
        go : (w : Wish) (t : Bool) → Heard f h c mode d a out w ≡ t → Left f h c d t w ≡ closed
        go w false q = s
        go (change z) true q = s
        go (offer_key k) true q =
            let live : opened f h d ≡ true = (offer_heard _ mode _ a out k q).1 in
            rw (ne_eqb c d (λ e. never (sym (shut s) ∙ rw e live))) s
        go restart true q = refl
        go (other z) true q = s
        go nothing true q = s
