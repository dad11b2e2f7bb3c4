-- The sign and the digits say where the fault is.
use Rattle.std.proofs.Common.{◌≡◌, sym, ◌∙◌}
use Rattle.atoi_formats.proofs.lemmas.Ascii.{prefix_error}
use Rattle.atoi_formats.proofs.ascii_numbers.prefix_error.Goals as goal

pub returns : goal.returns
returns g c =
    let signed : c.SIGNED.result ≡ g.T.Number.int_type.signed = c.SIGNED.ensures ∙ sym g.met.T.Number.type_is.sign_is in
    rw (c.refused_prefix.ensures, signed)
    (prefix_error g.T.Number.int_type g.met.T.Number.type_is.sized c.args.text.now c.requires)
