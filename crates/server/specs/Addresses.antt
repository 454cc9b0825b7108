-- The texts of socket addresses, as std reads them: an IPv4 address and a port, or an IPv6 address in brackets, with a scope or without, and a port.
use Rattle.std.specs.Prelude.{ℕ, List, Option, Some, None, option_map}
use Rattle.std.specs.Net.Reader.{read_socket_v4, read_socket_v6, whole_value}
use Rattle.std.specs.declared.net.socket_addr.SocketAddr.{SocketAddr}
use Rattle.std.specs.declared.net.socket_addr.SocketAddrV4.{SocketAddrV4}
use Rattle.std.specs.declared.net.socket_addr.SocketAddrV6.{SocketAddrV6}
use Rattle.std.specs.declared.net.socket_addr.SocketAddr.TheVariants.{V4, V6}
use Rattle.js_base.specs.Bytes.{Bytes}

-- four octets and a port
abbrev pub v4_socket : List ℕ × ℕ → SocketAddrV4
v4_socket parts = record { ip = record { octets = parts.0 }; port = parts.1 }

-- eight segments, a port, the flow information and the scope
abbrev pub v6_socket : List ℕ × ℕ × ℕ × ℕ → SocketAddrV6
v6_socket parts = record { ip = record { segments = parts.0 }; port = parts.1; flowinfo = parts.2; scope_id = parts.3 }

-- the first of the two that is there
abbrev pub first_of_two : {X : Type 0} → Option X → Option X → Option X
first_of_two (Some x) other = Some x
first_of_two None other = other

-- the socket address that the text writes, if it writes one
unfoldable pub address_of : Bytes → Option SocketAddr
address_of text = first_of_two (option_map (λ parts. V4 (v4_socket parts)) (whole_value (read_socket_v4 text))) (option_map (λ parts. V6 (v6_socket parts)) (whole_value (read_socket_v6 text)))
