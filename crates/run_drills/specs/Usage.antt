-- The usage file of a Thing's model (RFC 8520, 9, with another URL and another host). Both lists let a connection to port 443 of
-- the host pass that the Thing began. The Thing may send to all Things of the same manufacturer.
use Rattle.std.specs.Prelude.{ℕ, List, ◌++◌, codes}
use Rattle.run_drills.specs.Network.{usage_url, host_text}

unfoldable pub usage_text : ℕ → List ℕ
usage_text thing = usage_head ++ usage_url thing ++ usage_to ++ host_text thing ++ usage_from ++ host_text thing ++ usage_tail
  where
    -- the text in front of the URL
    usage_head : List ℕ
    usage_head = codes "{\"ietf-mud:mud\":{\"mud-version\":1,\"mud-url\":\""

    -- behind it, up to the host from which the Thing is sent to
    usage_to : List ℕ
    usage_to = codes "\",\"last-update\":\"2019-01-28T11:20:51+01:00\",\"cache-validity\":48,\"is-supported\":true,\"systeminfo\":\"The BMS Example Light Bulb\",\"from-device-policy\":{\"access-lists\":{\"access-list\":[{\"name\":\"v4fr\"}]}},\"to-device-policy\":{\"access-lists\":{\"access-list\":[{\"name\":\"v4to\"}]}}},\"ietf-access-control-list:acls\":{\"acl\":[{\"name\":\"v4to\",\"type\":\"ipv4-acl-type\",\"aces\":{\"ace\":[{\"name\":\"cl0-todev\",\"matches\":{\"ipv4\":{\"ietf-acldns:src-dnsname\":\""

    -- up to the host to which the Thing sends
    usage_from : List ℕ
    usage_from = codes "\",\"protocol\":6},\"tcp\":{\"ietf-mud:direction-initiated\":\"from-device\",\"source-port\":{\"operator\":\"eq\",\"port\":443}}},\"actions\":{\"forwarding\":\"accept\"}}]}},{\"name\":\"v4fr\",\"type\":\"ipv4-acl-type\",\"aces\":{\"ace\":[{\"name\":\"cl0-frdev\",\"matches\":{\"ipv4\":{\"ietf-acldns:dst-dnsname\":\""

    -- and to the end
    usage_tail : List ℕ
    usage_tail = codes "\",\"protocol\":6},\"tcp\":{\"ietf-mud:direction-initiated\":\"from-device\",\"destination-port\":{\"operator\":\"eq\",\"port\":443}}},\"actions\":{\"forwarding\":\"accept\"}},{\"name\":\"mfg-frdev\",\"matches\":{\"ietf-mud:mud\":{\"same-manufacturer\":[null]}},\"actions\":{\"forwarding\":\"accept\"}}]}}]}}"
