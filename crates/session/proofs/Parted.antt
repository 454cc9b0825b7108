-- Laws of parting from a client.
use Rattle.std.proofs.Common.{◌≡◌, true, is_some, [], ◌++◌, Option, refl, sym, ap, subst, ◌∙◌, inl, inr}
use Rattle.js_base.specs.Bytes.{Bytes}
use Rattle.link_edge.specs.Told.{grown}
use Rattle.link_edge.proofs.Told.{grown-nil}
use Rattle.session.specs.Talk.{IsCutOff, IsUnwritten, last_line, last_text, is_parting}
use Rattle.session.specs.Giving.{GivesPart, end_of}
use Rattle.session.specs.Parting.{Parts}
use Rattle.session.proofs.Framed.{line_cut, parting_written}
use Rattle.session.specs.declared.ending.Ended.{Ended}
use Rattle.session.specs.declared.ending.Ended.TheVariants as ends
use Rattle.session.specs.declared.giving.GiveFault.{GiveFault}
use Rattle.session.specs.declared.giving.GiveFault.TheVariants as faults

unwritten : (fault : GiveFault) → IsUnwritten (end_of fault)
unwritten faults.LinkFault = inl refl
unwritten faults.NoMemory = inr refl

-- all was given
pub parts_whole : (cause : Ended) (a b : Option Bytes) (bytes given : Bytes) → is_parting cause ≡ true → given ≡ bytes ++ last_line cause → b ≡ grown a given
    → Parts cause cause a b bytes
parts_whole cause a b bytes given p e g = record {
  out = bytes ++ last_line cause;
  ends_by = inl (refl, parting_written cause (bytes ++ last_line cause) p);
  given = g ∙ ap (grown a) e;
}

-- not all of it was given
pub parts_cut : (cause : Ended) (fault : GiveFault) (ended : Ended) (a b : Option Bytes) (bytes given : Bytes) → is_parting cause ≡ true
    → given ≡ bytes ++ last_line cause → GivesPart a b given → ended ≡ end_of fault → Parts cause ended a b bytes
parts_cut cause fault ended a b bytes given p e k f = record {
  out = k.0;
  ends_by = inr (p, subst IsUnwritten (sym f) (unwritten fault), subst (IsCutOff k.0) e k.1);
  given = k.2;
}

-- there was no memory for the line
pub parts_starved : (cause : Ended) (a : Option Bytes) (bytes : Bytes) → is_parting cause ≡ true → is_some (last_text cause) ≡ true → Parts cause ends.NoMemory a a bytes
parts_starved cause a bytes p line = record {
  out = [];
  ends_by = inr (p, inr refl, line_cut cause bytes line);
  given = sym (grown-nil a);
}
