use Rattle.std.proofs.lemmas.Bool.Decides.{nat_tests}
use Rattle.std.proofs.Common.{Some, arith, subst, sym, ◌∙◌}
use Rattle.langtag.specs.Text.{lang_tag_text}
use Rattle.langtag_posix.specs.ToPosix.{IsPosixName}
use Rattle.langtag_posix.proofs.PosixLaws.{written_cut}
use Rattle.langtag_posix.proofs.PosixNameRead.{reads_back, utf8_name}
use Rattle.langtag_posix.proofs.locale_name.to_posix.Goals as goal

pub unreachable-requires : goal.unreachable-requires
unreachable-requires c =
    grind (arith, nat_tests, c.in-Some.ensures.few, c.in-Err.ensures.cases.0, utf8_name (lang_tag_text c.args.tag), written_cut, c.in-Some.ensures.written)

pub returns-clause-read_back : goal.returns-clause-read_back
returns-clause-read_back c =
    let few = c.in-Some.ensures.few in
    reads_back (lang_tag_text c.args.tag) _
    (subst (λ name. IsPosixName (lang_tag_text c.args.tag) (Some name)) (sym (c.in_ok-name-in-Ok.ensures.ok ∙ c.in-Ok.ensures.cases.0))
    (written_cut (λ name. IsPosixName (lang_tag_text c.args.tag) (Some name)) _ _ _ c.in-Some.ensures.written (omega (arith, few))))
