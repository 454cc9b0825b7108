-- The text of an IP address needs no escape in JSON.
use Rattle.std.proofs.Common.{◌≡◌, ℕ, zero, suc, ◌<◌, ◌^◌, Bool, true, false, List, [], ◌∷◌, ◌++◌, get_or, All, refl, arith, inl, inr, codes}
use Rattle.std.specs.Prelude.{◌⊎◌, bytes_eq, take, drop, if◌then◌else◌}
use Rattle.std.specs.Net.Addr.{ipv4_octets, ipv6_segments, octets_of, IsIpv4Addr, IsIpv6Addr, MatchIp}
use Rattle.std.specs.Net.Text.{ipv4_text, ipv6_text, hex_groups_text, ip_text}
use Rattle.std.specs.declared.net.ip_addr.IpAddr.{IpAddr}
use Rattle.std.specs.declared.net.ip_addr.IpAddr.TheVariants.{V4, V6}
use Rattle.std.proofs.lemmas.Bool.Decides.{nat_tests}
use Rattle.std.proofs.lemmas.List.Elements.{All-weaker, All-append, All-from_recursion}
use Rattle.std.proofs.lemmas.List.Sums.{list_all-from_AllPass}
use Rattle.std.proofs.NetLemmas.Alphabet.{IsDigitOrDot, IsHexOrColon, All-ipv4_text, All-hex_groups_text}
use Rattle.std.proofs.NetLemmas.Texts.{AllSegments, AllSegments-drop}
use Rattle.session.specs.Host.{needs_no_escape, is_plain}

abbrev IsFree : ℕ → Type 0
IsFree byte = needs_no_escape byte ≡ true

dotted_free : (byte : ℕ) → IsDigitOrDot byte → IsFree byte
dotted_free byte h = grind (arith, nat_tests)

hex_free : (byte : ℕ) → IsHexOrColon byte → IsFree byte
hex_free byte h = grind (arith, nat_tests)

octets_small : (segments : List ℕ) → AllSegments segments → (k : ℕ) → get_or (octets_of segments) k 0 < 2 ^ 8
octets_small [] fits k = omega arith
octets_small (s ∷ more) fits zero = let first : s < 2 ^ 16 = fits 0 in omega arith
octets_small (s ∷ more) fits (suc zero) = omega arith
octets_small (s ∷ more) fits (suc (suc k)) = octets_small more (λ j. fits (suc j)) k

v4_free : (octets : List ℕ) → ((k : ℕ) → get_or octets k 0 < 2 ^ 8) → All IsFree (ipv4_text octets)
v4_free octets fits = All-weaker IsDigitOrDot IsFree dotted_free (ipv4_text octets) (All-ipv4_text octets fits)

abbrev mapped : List ℕ
mapped = codes "::ffff:"

mapped_free : All IsFree mapped
mapped_free = All-from_recursion IsFree mapped (refl, (refl, (refl, (refl, (refl, (refl, (refl, tt)))))))

v6_free : (segments : List ℕ) → AllSegments segments → All IsFree (ipv6_text segments)
unfolding ipv6_text
v6_free segments fits = by (bytes_eq (take 6 segments) (0 ∷ 0 ∷ 0 ∷ 0 ∷ 0 ∷ 0xffff ∷ []))
  where
    by : (b : Bool) → All IsFree (if b then mapped ++ ipv4_text (octets_of (drop 6 segments)) else hex_groups_text segments)
    by true = All-append IsFree mapped _ mapped_free (v4_free _ (octets_small (drop 6 segments) (AllSegments-drop 6 segments fits)))
    by false = All-weaker IsHexOrColon IsFree hex_free (hex_groups_text segments) (All-hex_groups_text segments fits)

-- the text of an address whose parts are in their ranges
pub v4_plain : (octets : List ℕ) → ((k : ℕ) → get_or octets k 0 < 2 ^ 8) → is_plain (ipv4_text octets) ≡ true
v4_plain octets fits = list_all-from_AllPass needs_no_escape _ (v4_free octets fits)

pub v6_plain : (segments : List ℕ) → AllSegments segments → is_plain (ipv6_text segments) ≡ true
v6_plain segments fits = list_all-from_AllPass needs_no_escape _ (v6_free segments fits)
