-- Laws of the texts of addresses: what is defined by std's readers is what its grammar says.
use Rattle.std.proofs.Common.{◌≡◌, ℕ, List, [], ◌∷◌, length, Option, Some, None, option_map, Result, Ok, Err, refl, sym, ◌∙◌, subst, append-nil, ne_eqb, arith}
use Rattle.std.specs.Prelude.{IfSome}
use Rattle.std.specs.Result.{result_ok}
use Rattle.std.specs.declared.net.socket_addr.SocketAddr.{SocketAddr}
use Rattle.std.specs.declared.net.socket_addr.SocketAddrV6.{SocketAddrV6}
use Rattle.std.specs.declared.net.socket_addr.SocketAddr.TheVariants.{V4, V6}
use Rattle.std.specs.Net.Grammar.{Parses, IsSocketText, IsSocketV4Text, IsSocketV6Text}
use Rattle.std.specs.Net.Reader.{Read, read_socket_v4, read_socket_v6, whole_value}
use Rattle.std.proofs.NetLemmas.Sockets.{read_socket_v4_sound, read_socket_v4_complete, read_socket_v6_sound, read_socket_v6_complete, IsSocketV4Text-not_v6}
use Rattle.server.specs.Addresses.{v4_socket, v6_socket, first_of_two, address_of}

-- what was read with nothing left behind it
whole_some : {A : Type 0} (Spells : A → Type 0) (read : Read A) → ((a : A) → read ≡ Some (a, []) → Spells a) → IfSome (whole_value read) Spells
whole_some Spells None spells = tt
whole_some Spells (Some (a, [])) spells = spells a refl
whole_some Spells (Some (a, c ∷ rest)) spells = rw (ne_eqb (length (c ∷ rest)) 0 (omega arith)) tt

v4_read : (text : List ℕ) → IfSome (whole_value (read_socket_v4 text)) (λ parts. IsSocketV4Text text (v4_socket parts))
v4_read text = whole_some _ (read_socket_v4 text) λ parts read.
    let (front, split, spells) = read_socket_v4_sound text [] (v4_socket parts) read in
    subst (λ t. IsSocketV4Text t (v4_socket parts)) (sym (split ∙ append-nil front)) spells

v6_read : (text : List ℕ) → IfSome (whole_value (read_socket_v6 text)) (λ parts. IsSocketV6Text text (v6_socket parts))
v6_read text = whole_some _ (read_socket_v6 text) λ parts read.
    let (front, split, spells) = read_socket_v6_sound text [] (v6_socket parts) read in
    subst (λ t. IsSocketV6Text t (v6_socket parts)) (sym (split ∙ append-nil front)) spells

no_v4 : (text : List ℕ) (a : SocketAddrV6) → IsSocketV6Text text a → whole_value (read_socket_v4 text) ≡ None
no_v4 text a spells = by (whole_value (read_socket_v4 text)) (v4_read text)
  where
    by : (o : Option (List ℕ × ℕ)) → IfSome o (λ parts. IsSocketV4Text text (v4_socket parts)) → o ≡ None
    by None read = refl
    by (Some parts) read = absurd (IsSocketV4Text-not_v6 text (v4_socket parts) a read spells)

spelled : (text : List ℕ) (a : SocketAddr) → IsSocketText text a → address_of text ≡ Some a
unfolding address_of
spelled text (V4 a) spells = rw (read_socket_v4_complete text a spells) refl
spelled text (V6 a) spells = rw (no_v4 text a spells, read_socket_v6_complete text a spells) refl

unspelled : (text : List ℕ) → ((a : SocketAddr) → ¬ (IsSocketText text a)) → address_of text ≡ None
unfolding address_of
unspelled text none = by (whole_value (read_socket_v4 text)) (whole_value (read_socket_v6 text)) (v4_read text) (v6_read text)
  where
    by : (o : Option (List ℕ × ℕ)) (p : Option (List ℕ × ℕ × ℕ × ℕ)) → IfSome o (λ parts. IsSocketV4Text text (v4_socket parts)) → IfSome p (λ parts. IsSocketV6Text text (v6_socket parts)) →
        first_of_two (option_map (λ parts. V4 (v4_socket parts)) o) (option_map (λ parts. V6 (v6_socket parts)) p) ≡ None
    by None None v4 v6 = refl
    by (Some parts) p v4 v6 = absurd (none (V4 (v4_socket parts)) v4)
    by None (Some parts) v4 v6 = absurd (none (V6 (v6_socket parts)) v6)

-- what std parses is the address that the text writes
pub address_parsed : {E : Type 0} (text : List ℕ) (r : Result SocketAddr E) → Parses IsSocketText text r → result_ok r ≡ address_of text
address_parsed text (Ok a) parsed = sym (spelled text a parsed)
address_parsed text (Err e) parsed = sym (unspelled text parsed)
