-- What the settings ask of every value.
use Rattle.fields.specs.declared.terms.Terms.{Terms}
use Rattle.settings.specs.declared.settings.Settings.{Settings}
use Rattle.values.specs.Calendar.{yymmdd}

-- the day as six digits, and the currency's letters
abbrev pub terms_of : Settings → Terms
terms_of s = record { day = yymmdd s.date.year s.date.month s.date.day; currency = s.currency.letters }
