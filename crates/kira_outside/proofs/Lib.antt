mod FindEntry
