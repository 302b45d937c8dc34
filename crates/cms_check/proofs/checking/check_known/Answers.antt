use Rattle.cms_message.specs.Cover.{content_given}
use Rattle.cms_check.proofs.Reports.{all_reported}
use Rattle.cms_check.proofs.checking.check_known.Goals as goal

pub returns : goal.returns
returns g c detached stamped k =
    let content = content_given c.args.signed_data.now detached in
    let given = c.in_ok-content.ensures detached k.0 in (
      c.in_ok-tst_info.tst_info,
      c.in_ok-tst_info.ensures content given,
      all_reported c.new-findings.result.items _ _ _ _ c.in_ok-rules.rules _ c.args.more.now c.new-findings.ensures.items
          c.in_ok-append_broken.ensures (c.in_ok-rules.ensures content stamped given k.1) c.in_ok-append_broken-2.ensures
          (c.in_ok-append_broken_by_signers.ensures content given),
    )
