-- The domain that the bridge's struct holds: its limits, its open connections, and its tables by their columns. It is `domain_in` of `domain_tables`,
-- written out here, for who reads what the functions for C promise.
use Rattle.domain.specs.Tables.{Domain, domain_of}
use Rattle.domain_tables.specs.declared.Domain.{Domain as Held}

abbrev pub domain_in : Held → Domain
domain_in d = domain_of d.limits d.links d.users.ids d.users.links d.channels.ids d.channels.kinds d.channels.managers d.members.admitted d.members.joined d.tokens.ids d.tokens.states d.tokens.values
